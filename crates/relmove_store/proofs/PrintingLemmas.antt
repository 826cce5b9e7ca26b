-- Lemmas on what is printed.
use Rattle.std.proofs.Common.{◌≡◌, ℕ, ◌<◌, ◌^◌, Bool, true, false, if◌then◌else◌, ◌||◌, List, [], ◌∷◌, ◌++◌, codes, refl, sym, ap, ap₂, ◌∙◌, arith, append-nil, lit<}
use Rattle.std.proofs.lemmas.Bool.{and_parts}
use Rattle.std.proofs.lemmas.Bool.Decides.{nat_tests}
use Rattle.std.proofs.lemmas.Fmt.{digits_is_IsNumeral}
use Rattle.std.proofs.lemmas.Str.{IsAscii-append, IsUtf8-append, IsUtf8-encode, IsUtf8-from_ascii, IsUtf8-nil, chars-IsAscii, chars-append, chars-nil, chars_past_char}
use Rattle.std.proofs.lemmas.Str.Ascii.{IsAscii-cons, IsAscii-nil}
use Rattle.std.specs.Char.{IsScalar, digit_value, encode_utf8}
use Rattle.std.specs.Fmt.{digits}
use Rattle.std.specs.List.{flat_map, list_any}
use Rattle.std.specs.Str.{IsAscii, IsUtf8, chars}
use Rattle.std.specs.Str.Parse.{AllDigits}
use lib.Utf8.{scalar_fits, scalars}
use Rattle.relmove_store.specs.Printing.{changes_text, printed_character}

or_assoc : (a b c : Bool) → (a || (b || c)) ≡ ((a || b) || c)
or_assoc true b c = refl
or_assoc false b c = refl

any-append : (p : ℕ → Bool) (xs ys : List ℕ) → list_any p (xs ++ ys) ≡ (list_any p xs || list_any p ys)
any-append p [] ys = refl
any-append p (x ∷ xs) ys =
    ap (λ b. p x || b) (any-append p xs ys) ∙ or_assoc (p x) (list_any p xs) (list_any p ys)

-- a digit in base 16 is a digit or a letter of ASCII
digit_between : (d : ℕ) → digit_value d < 16 → (47 < d) × (d < 123)
digit_between d small = grind (arith, nat_tests)

-- a character of ASCII that is seen, or a space, changes nothing
unchanged : (d : ℕ) → 31 < d → d < 127 → changes_text d ≡ false
unchanged d low high = grind (arith, nat_tests)

digits_change_nothing : (ds : List ℕ) → AllDigits 16 ds → IsAscii ds × (list_any changes_text ds ≡ false)
digits_change_nothing [] all = (IsAscii-nil, refl)
digits_change_nothing (d ∷ ds) (small, others) =
    let (low, high) = digit_between d small in
    let (ascii, none) = digits_change_nothing ds others in
    (IsAscii-cons d ds (omega arith) ascii, ap₂ ◌||◌ (unchanged d (omega arith) (omega arith)) none)

-- the number of a character
abbrev number_text : ℕ → List ℕ
number_text c = codes "\\u{" ++ digits 16 false c ++ codes "}"

number_changes_nothing : (c : ℕ) → c < 2 ^ 32 → IsAscii (number_text c) × (list_any changes_text (number_text c) ≡ false)
number_changes_nothing c small =
    let (ascii, none) = digits_change_nothing (digits 16 false c) (digits_is_IsNumeral 16 false (lit< tt) (lit< tt) c (omega arith)).0.1 in
    let start = IsAscii-cons 92 (117 ∷ 123 ∷ []) (lit< tt)
    (IsAscii-cons 117 (123 ∷ []) (lit< tt) (IsAscii-cons 123 [] (lit< tt) IsAscii-nil)) in
    let end = IsAscii-cons 125 [] (lit< tt) IsAscii-nil in (
      IsAscii-append (codes "\\u{" ++ digits 16 false c) (codes "}") (IsAscii-append (codes "\\u{") (digits 16 false c) start ascii) end,
      any-append changes_text (codes "\\u{" ++ digits 16 false c) (codes "}")
          ∙ ap (λ b. b || false) (any-append changes_text (codes "\\u{") (digits 16 false c) ∙ none),
    )

-- what is printed for a character changes nothing
character_changes_nothing : (c : ℕ) → IsScalar c
    → IsUtf8 (printed_character c) × (list_any changes_text (chars (printed_character c)) ≡ false)
character_changes_nothing c is = go (changes_text c) refl
  where
    go : (b : Bool) → changes_text c ≡ b
        → IsUtf8 (if b then number_text c else encode_utf8 c)
        × (list_any changes_text (chars (if b then number_text c else encode_utf8 c)) ≡ false)
    go true changes =
        let (ascii, none) = number_changes_nothing c (scalar_fits c is) in
        (IsUtf8-from_ascii (number_text c) ascii, ap (list_any changes_text) (chars-IsAscii (number_text c) ascii) ∙ none)
    go false same =
        let utf8 = IsUtf8-encode c is in (
          utf8,
          ap (list_any changes_text)
              (chars_past_char (encode_utf8 c) [] c utf8 (sym (append-nil (encode_utf8 c))) ∙ ap (λ l. c ∷ l) chars-nil)
              ∙ ap (λ b. b || false) same,
        )

-- what is printed for characters changes nothing
pub printed-changes_nothing : (cs : List ℕ) → scalars cs ≡ true
    → IsUtf8 (flat_map printed_character cs) × (list_any changes_text (chars (flat_map printed_character cs)) ≡ false)
printed-changes_nothing [] all = (IsUtf8-nil, ap (list_any changes_text) chars-nil)
printed-changes_nothing (c ∷ cs) all =
    let (one, others) = and_parts _ _ all in
    let (utf8, none) = character_changes_nothing c one in
    let (more_utf8, none_more) = printed-changes_nothing cs others in (
      IsUtf8-append (printed_character c) (flat_map printed_character cs) utf8 more_utf8,
      ap (list_any changes_text) (chars-append (printed_character c) (flat_map printed_character cs) utf8)
          ∙ any-append changes_text (chars (printed_character c)) (chars (flat_map printed_character cs))
          ∙ ap₂ ◌||◌ none none_more,
    )
