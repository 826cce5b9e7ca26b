-- Lemmas on what is written in a field, and how it reads back.
use Rattle.std.proofs.Common.{◌≡◌, ◌≢◌, ℕ, ◌+◌, ◌<◌, ◌^◌, ◌==◌, Bool, true, false, not, ◌&&◌, if◌then◌else◌, is_ok, nat_lt, Result, Ok, Err, ◌⊎◌, inl, inr, List, [], ◌∷◌, ◌++◌, codes, drop, get_or, length, refl, sym, ap, ap₂, ◌∙◌, arith, lit<, append-nil, append_assoc, true≢false}
use Rattle.std.proofs.lemmas.Bool.{and_from, and_parts}
use Rattle.std.proofs.lemmas.Bool.Decides.{nat_tests}
use Rattle.std.proofs.lemmas.Fmt.{digits_is_IsNumeral}
use Rattle.std.proofs.lemmas.List.{drop_more}
use Rattle.std.proofs.lemmas.List.Elements.{All-head, All-tail}
use Rattle.std.proofs.lemmas.Str.{chars-IsAscii, chars-encodes, encode_ascii, encodes-append, encodes-chars, scalars-chars}
use Rattle.std.proofs.lemmas.Str.Ascii.{IsAscii-cons, IsAscii-nil}
use Rattle.std.specs.Char.{digit_value}
use Rattle.std.specs.Fmt.{decimal}
use Rattle.std.specs.List.{AllPass, flat_map, list_all}
use Rattle.std.specs.Str.{IsAscii, IsUtf8, chars}
use Rattle.std.specs.Str.Parse.{AllDigits}
use Rattle.hex.proofs.HexLemmas.{IsOk-decode_sized, decode_sized-encode_lower}
use Rattle.hex.specs.Hex.{IsBytes, encode_lower, is_hex_digit}
use lib.Utf8.{encode, encodes, scalar, scalars}
use Rattle.relmove_journal.specs.declared.work.Stage.{Stage}
use Rattle.relmove_journal.specs.declared.work.Stage.TheVariants.{Writing, Staging, Making, Placing, Cleaning, Unplacing, Unmaking, Unstaging, Erasing}
use Rattle.relmove_journal.specs.Journals.{escaped, escaped_character, stage_name}

-- ---- fields that are written as they are

-- the byte is a character of ASCII after `/`, and no backslash
abbrev is_plain : ℕ → Bool
is_plain b = nat_lt 47 b && nat_lt b 128 && not (b == 92)

plain_bounds : (b : ℕ) → is_plain b ≡ true → (b < 128) × ((b == 92) ≡ false) × ((b == 9) ≡ false) × ((b == 10) ≡ false)
plain_bounds b plain =
    (grind (arith, nat_tests), grind (arith, nat_tests), grind (arith, nat_tests), grind (arith, nat_tests))

escaped_character-plain : (b : ℕ) → is_plain b ≡ true → escaped_character b ≡ b ∷ []
escaped_character-plain b plain =
    let (small, one, two, three) = plain_bounds b plain in rw (one, two, three) (encode_ascii b small)

plain_text : (text : List ℕ) → list_all is_plain text ≡ true → IsAscii text × (flat_map escaped_character text ≡ text)
plain_text [] all = (IsAscii-nil, refl)
plain_text (b ∷ bs) all =
    let (plain, others) = and_parts _ _ all in
    let (ascii, same) = plain_text bs others in (
      IsAscii-cons b bs (plain_bounds b plain).0 ascii,
      ap₂ ◌++◌ (escaped_character-plain b plain) same,
    )

-- a text of such bytes is written as it is
escaped-plain : (text : List ℕ) → list_all is_plain text ≡ true → escaped text ≡ text
escaped-plain text all =
    let (ascii, same) = plain_text text all in ap (flat_map escaped_character) (chars-IsAscii text ascii) ∙ same

digits_plain : (ds : List ℕ) → AllDigits 10 ds → list_all is_plain ds ≡ true
digits_plain [] all = refl
digits_plain (d ∷ ds) (small, others) = and_from (is_plain d) _ (digit d small) (digits_plain ds others)
  where
    digit : (d : ℕ) → digit_value d < 10 → is_plain d ≡ true
    digit d small = grind (arith, nat_tests)

-- a number is written as it is
pub escaped-decimal : (n : ℕ) → n < 2 ^ 64 → escaped (decimal n) ≡ decimal n
escaped-decimal n small =
    escaped-plain (decimal n) (digits_plain (decimal n) (digits_is_IsNumeral 10 false (lit< tt) (lit< tt) n (omega (arith, small))).0.1)

hex_plain : (ds : List ℕ) → AllPass is_hex_digit ds → list_all is_plain ds ≡ true
hex_plain [] all = refl
hex_plain (d ∷ ds) all =
    and_from (is_plain d) _ (digit d (All-head (λ c. is_hex_digit c ≡ true) d ds all))
    (hex_plain ds (All-tail (λ c. is_hex_digit c ≡ true) d ds all))
  where
    digit : (d : ℕ) → is_hex_digit d ≡ true → is_plain d ≡ true
    digit d is = grind (arith, nat_tests)

-- bytes in hexadecimal are written as they are
pub escaped-encode_lower : (bytes : List ℕ) → length bytes ≡ 32 → IsBytes bytes
    → escaped (encode_lower bytes) ≡ encode_lower bytes
escaped-encode_lower bytes long are =
    escaped-plain (encode_lower bytes) (hex_plain (encode_lower bytes)
    ((IsOk-decode_sized (encode_lower bytes) 32).0 (rw (decode_sized-encode_lower bytes 32 long are) refl)).1)

-- the name of a stage is written as it is
pub escaped-stage_name : (stage : Stage) → escaped (stage_name stage) ≡ stage_name stage
escaped-stage_name Writing = escaped-plain (stage_name Writing) refl
escaped-stage_name Staging = escaped-plain (stage_name Staging) refl
escaped-stage_name Making = escaped-plain (stage_name Making) refl
escaped-stage_name Placing = escaped-plain (stage_name Placing) refl
escaped-stage_name Cleaning = escaped-plain (stage_name Cleaning) refl
escaped-stage_name Unplacing = escaped-plain (stage_name Unplacing) refl
escaped-stage_name Unmaking = escaped-plain (stage_name Unmaking) refl
escaped-stage_name Unstaging = escaped-plain (stage_name Unstaging) refl
escaped-stage_name Erasing = escaped-plain (stage_name Erasing) refl

-- ---- the characters of a field

-- those that are written of one
abbrev pub written : ℕ → List ℕ
written c = if c == 92 then 92 ∷ 92 ∷ [] else if c == 9 then 92 ∷ 116 ∷ [] else if c == 10 then 92 ∷ 110 ∷ [] else c ∷ []

escaped_character-written : (c : ℕ) → escaped_character c ≡ encodes (written c)
unfolding encode
escaped_character-written c = go (c == 92) (c == 9) (c == 10)
  where
    go : (backslash tab feed : Bool)
        → (if backslash then codes "\\\\" else if tab then codes "\\t" else if feed then codes "\\n" else encode c)
        ≡ encodes (if backslash then 92 ∷ 92 ∷ [] else if tab then 92 ∷ 116 ∷ []
        else if feed then 92 ∷ 110 ∷ [] else c ∷ [])
    go true tab feed = refl
    go false true feed = refl
    go false false true = refl
    go false false false = sym (append-nil (encode c))

flat_map-written : (cs : List ℕ) → flat_map escaped_character cs ≡ encodes (flat_map written cs)
flat_map-written [] = refl
flat_map-written (c ∷ cs) =
    ap₂ ◌++◌ (escaped_character-written c) (flat_map-written cs) ∙ sym (encodes-append (written c) (flat_map written cs))

scalars-append : (cs ds : List ℕ) → scalars cs ≡ true → scalars ds ≡ true → scalars (cs ++ ds) ≡ true
scalars-append [] ds one other = other
scalars-append (c ∷ cs) ds one other =
    let (first, others) = and_parts _ _ one in and_from (scalar c) _ first (scalars-append cs ds others other)

scalars-written : (cs : List ℕ) → scalars cs ≡ true → scalars (flat_map written cs) ≡ true
scalars-written [] all = refl
scalars-written (c ∷ cs) all =
    let (first, others) = and_parts _ _ all in
    scalars-append (written c) (flat_map written cs) (go (c == 92) (c == 9) (c == 10) first) (scalars-written cs others)
  where
    go : (backslash tab feed : Bool) → scalar c ≡ true
        → scalars (if backslash then 92 ∷ 92 ∷ [] else if tab then 92 ∷ 116 ∷ []
        else if feed then 92 ∷ 110 ∷ [] else c ∷ []) ≡ true
    go true tab feed is = refl
    go false true feed is = refl
    go false false true is = refl
    go false false false is = and_from (scalar c) true is refl

-- the characters of a path that is written in a field
chars-escaped : (path : List ℕ) → IsUtf8 path → chars (escaped path) ≡ flat_map written (chars path)
chars-escaped path utf8 =
    ap chars (flat_map-written (chars path))
    ∙ chars-encodes (flat_map written (chars path)) (scalars-written (chars path) (scalars-chars path utf8))

-- what a character after a backslash stands for
abbrev StandsFor : ℕ → ℕ → Type 0
StandsFor d c = ((d ≡ 92) × (c ≡ 92)) ⊎ (((d ≡ 116) × (c ≡ 9)) ⊎ ((d ≡ 110) × (c ≡ 10)))

-- the characters that aren't read yet: a backslash that was read stands before them
abbrev pub unread : Bool → List ℕ → List ℕ
unread true cs = 92 ∷ cs
unread false cs = cs

-- the path so far, and the characters for which those stand that aren't read yet, are the whole path
pub record IsReadSoFar (is_escaped : Bool) (cs so_far path : List ℕ) : Type 0 where
  left : List ℕ
  written_left : unread is_escaped cs ≡ flat_map written left
  joined : so_far ++ encodes left ≡ path

-- at the beginning nothing is read
pub IsReadSoFar-none : (field path so_far : List ℕ) → IsUtf8 path → field ≡ escaped path → so_far ≡ []
    → IsReadSoFar false (chars field) so_far path
IsReadSoFar-none field path so_far utf8 is none = record {
  left = chars path;
  written_left = ap chars is ∙ chars-escaped path utf8;
  joined = ap (λ text. text ++ encodes (chars path)) none ∙ encodes-chars path utf8;
}

-- what stands first in the characters of a field: a character, or a backslash and one
abbrev first_written : Bool → Bool → Bool → ℕ → List ℕ
first_written backslash tab feed c =
    if backslash then 92 ∷ 92 ∷ [] else if tab then 92 ∷ 116 ∷ [] else if feed then 92 ∷ 110 ∷ [] else c ∷ []

-- at the end all is read
pub IsReadSoFar-end : (so_far path : List ℕ) → IsReadSoFar false [] so_far path → so_far ≡ path
IsReadSoFar-end so_far path so = go so.left so.written_left so.joined
  where
    go : (left : List ℕ) → [] ≡ flat_map written left → so_far ++ encodes left ≡ path → so_far ≡ path
    go [] none joined = sym (append-nil so_far) ∙ joined
    go (c ∷ cs) none joined = absurd (some (c == 92) (c == 9) (c == 10) (ap length none))
      where
        some : (backslash tab feed : Bool) → ¬ (0 ≡ length (first_written backslash tab feed c ++ flat_map written cs))
        some true tab feed same = omega (arith, same)
        some false true feed same = omega (arith, same)
        some false false true same = omega (arith, same)
        some false false false same = omega (arith, same)

-- and no backslash is left
pub IsReadSoFar-whole : (so_far path : List ℕ) → ¬ (IsReadSoFar true [] so_far path)
IsReadSoFar-whole so_far path so = go so.left so.written_left
  where
    go : (left : List ℕ) → ¬ (92 ∷ [] ≡ flat_map written left)
    go [] same = omega (arith, ap length same)
    go (c ∷ cs) same = some (c == 92) (c == 9) (c == 10) refl same
      where
        some : (backslash tab feed : Bool) → (c == 92) ≡ backslash
            → ¬ (92 ∷ [] ≡ first_written backslash tab feed c ++ flat_map written cs)
        some true tab feed is same = omega (arith, ap length same)
        some false true feed is same = omega (arith, ap length same)
        some false false true is same = omega (arith, ap length same)
        some false false false is same = let e : 92 ≡ c = ap (λ l. get_or l 0 0) same in grind (arith, nat_tests)

-- a character without a backslash stands for itself
pub IsReadSoFar-plain : (d : ℕ) (cs so_far after path : List ℕ) → d ≢ 92 → after ≡ so_far ++ encode d
    → IsReadSoFar false (d ∷ cs) so_far path → IsReadSoFar false cs after path
IsReadSoFar-plain d cs so_far after path plain is so = go so.left so.written_left so.joined
  where
    go : (left : List ℕ) → d ∷ cs ≡ flat_map written left → so_far ++ encodes left ≡ path → IsReadSoFar false cs after path
    go [] same joined = absurd (omega (arith, ap length same))
    go (c ∷ more) same joined = some (c == 92) (c == 9) (c == 10) same
      where
        escape : (e : ℕ) (es : List ℕ) → d ∷ cs ≡ 92 ∷ e ∷ es → IsReadSoFar false cs after path
        escape e es same = absurd (plain (ap (λ l. get_or l 0 0) same))

        some : (backslash tab feed : Bool) → d ∷ cs ≡ first_written backslash tab feed c ++ flat_map written more
            → IsReadSoFar false cs after path
        some true tab feed same = escape 92 (flat_map written more) same
        some false true feed same = escape 116 (flat_map written more) same
        some false false true same = escape 110 (flat_map written more) same
        some false false false same = record {
          left = more;
          written_left = ap (drop 1) same;
          joined = ap (λ text. text ++ encodes more) (is ∙ ap (λ e. so_far ++ encode e) (ap (λ l. get_or l 0 0) same))
              ∙ append_assoc so_far (encode c) (encodes more) ∙ joined;
        }

-- a backslash is read
pub IsReadSoFar-backslash : (d : ℕ) (cs so_far path : List ℕ) → d ≡ 92 → IsReadSoFar false (d ∷ cs) so_far path
    → IsReadSoFar true cs so_far path
IsReadSoFar-backslash d cs so_far path is so =
    record { left = so.left; written_left = ap (λ c. c ∷ cs) (sym is) ∙ so.written_left; joined = so.joined }

-- what a call returns that knows what stands after a backslash
pub StandsFor-gives : {E : Type 0} (d c : ℕ) (r : Result ℕ E) → StandsFor d c → (d ≡ 92 → r ≡ Ok 92)
    → (d ≡ 116 → r ≡ Ok 9) → (d ≡ 110 → r ≡ Ok 10) → r ≡ Ok c
StandsFor-gives d c r (inl (one, other)) backslash tab feed = backslash one ∙ ap Ok (sym other)
StandsFor-gives d c r (inr (inl (one, other))) backslash tab feed = tab one ∙ ap Ok (sym other)
StandsFor-gives d c r (inr (inr (one, other))) backslash tab feed = feed one ∙ ap Ok (sym other)

-- a value that is returned
pub Ok-value : {A E : Type 0} (v w : A) → ◌≡◌ {A = Result A E} (Ok v) (Ok w) → v ≡ w
Ok-value v w same = ap (λ r. elim r [ Ok x ↦ x | Err e ↦ v ]) same

-- an error is no value
pub Err-no_value : {A E : Type 0} (e : E) (w : A) → ¬ (◌≡◌ {A = Result A E} (Err e) (Ok w))
Err-no_value e w same = true≢false (sym (ap is_ok same))

-- a character after a backslash stands for another one
pub IsReadSoFar-escape : (d : ℕ) (cs so_far path : List ℕ) → IsReadSoFar true (d ∷ cs) so_far path
    → (c : ℕ) × StandsFor d c × ((after : List ℕ) → after ≡ so_far ++ encode c → IsReadSoFar false cs after path)
IsReadSoFar-escape d cs so_far path so = go so.left so.written_left so.joined
  where
    go : (left : List ℕ) → 92 ∷ d ∷ cs ≡ flat_map written left → so_far ++ encodes left ≡ path
        → (c : ℕ) × StandsFor d c × ((after : List ℕ) → after ≡ so_far ++ encode c → IsReadSoFar false cs after path)
    go [] same joined = absurd (omega (arith, ap length same))
    go (c ∷ more) same joined = some (c == 92) (c == 9) (c == 10) refl refl refl same
      where
        rest : cs ≡ flat_map written more → (after : List ℕ) → after ≡ so_far ++ encode c → IsReadSoFar false cs after path
        rest same after is = record {
          left = more;
          written_left = same;
          joined = ap (λ text. text ++ encodes more) is ∙ append_assoc so_far (encode c) (encodes more) ∙ joined;
        }

        some : (backslash tab feed : Bool) → (c == 92) ≡ backslash → (c == 9) ≡ tab → (c == 10) ≡ feed
            → 92 ∷ d ∷ cs ≡ first_written backslash tab feed c ++ flat_map written more
            → (c : ℕ) × StandsFor d c × ((after : List ℕ) → after ≡ so_far ++ encode c → IsReadSoFar false cs after path)
        some true tab feed one two three same =
            (c, inl (ap (λ l. get_or l 1 0) same, grind (arith, nat_tests)), rest (ap (drop 2) same))
        some false true feed one two three same =
            (c, inr (inl (ap (λ l. get_or l 1 0) same, grind (arith, nat_tests))), rest (ap (drop 2) same))
        some false false true one two three same =
            (c, inr (inr (ap (λ l. get_or l 1 0) same, grind (arith, nat_tests))), rest (ap (drop 2) same))
        some false false false one two three same =
            let e : 92 ≡ c = ap (λ l. get_or l 0 0) same in absurd (grind (arith, nat_tests))

-- what is left begins with the next character
pub drop-turn : (cs : List ℕ) (n c more : ℕ) → (n < length cs) × (c ≡ get_or cs n c) → more ≡ n + 1
    → drop n cs ≡ c ∷ drop more cs
drop-turn cs n c more (inside, is) count =
    drop_more cs n c inside ∙ ap₂ (λ d k. d ∷ drop k cs) (sym is) (sym count)
