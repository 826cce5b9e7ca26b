-- What a text ends in is what its file name ends in.
use Rattle.std.proofs.Common.{◌≡◌, ◌⊎◌, ℕ, zero, suc, cond, ◌+◌, ◌*◌, ◌<◌, ◌≤◌, Bool, true, false, ◌||◌, ◌&&◌, ◌==◌, List, [], ◌∷◌, ◌++◌, length, not, replicate, Some, None, inl, inr, refl, sym, ap, ap₂, ◌∙◌, subst, true≢false, arith, bytes_eq, get_or-append-add, length-append, get_or, append_assoc}
use Rattle.std.specs.List.{AllByRecursion, fold, list_any}
use Rattle.std.specs.Char.{digit_value, is_digit}
use Rattle.std.specs.Prelude.{is_some}
use Rattle.std.proofs.lemmas.Bool.{agree_below_at, and_parts, cases_Bool, cases_lt, cond-false, cond-true, eq-eqb, eqb-true, le-ltb, ltb-true, or_left, or_parts, or_right}
use Rattle.std.proofs.lemmas.List.Elements.{All-from_recursion}
use Rattle.std.proofs.lemmas.List.Splits.{slice_split_none}
use Rattle.std.proofs.lemmas.List.Sums.{fold-append, sum_by-cons}
use Rattle.std.proofs.lemmas.Option.{same_Some}
use Rattle.std.proofs.lemmas.Slice.Eq.{bytes_eq-Decides}
use Rattle.percent_encoding.specs.Percent.{is_escape, percent_decode, percent_sign}
use Rattle.relative_path.specs.Steps.{Step, classed, components, cur, is_slash, name, pieces, slash, step_text, up}
use Rattle.relative_path.specs.Editing.{kept, pushed, with_separator}
use Rattle.relative_path.specs.Naming.{file_name_of, last_name}
use Rattle.relative_path.proofs.ForCallers.{components-pushed, components-trailing_slash, last_name-name, last_name-split}
use Rattle.relmove_mentions.specs.Endings.{ending_of, has_name, next_ending, no_ending, with_byte}
use Rattle.relmove_mentions.specs.NameHashes.{hash_of, next_hash}
use Rattle.relmove_mentions.specs.Spans.{is_other_byte, is_path_byte, others_in}
use Rattle.relmove_mentions.specs.declared.endings.Ending.{Ending}

-- ---- one more byte

next-slash : (e : Ending) (b : ℕ) → is_slash b ≡ true
    → next_ending e b ≡ record { hash = e.hash; encoded = e.encoded; ended = true }
next-slash e b is = cond-true (is_slash b) _ _ is

-- after an end another word begins
next-anew : (e : Ending) (b : ℕ) → is_slash b ≡ false → e.ended ≡ true → next_ending e b ≡ with_byte no_ending b
next-anew e b plain is = cond-false (is_slash b) _ _ plain ∙ ap (λ f. with_byte f b) (cond-true e.ended no_ending e is)

-- otherwise the word goes on
next-within : (e : Ending) (b : ℕ) → is_slash b ≡ false → e.ended ≡ false → next_ending e b ≡ with_byte e b
next-within e b plain goes_on =
    cond-false (is_slash b) _ _ plain ∙ ap (λ f. with_byte f b) (cond-false e.ended no_ending e goes_on)

or_none : (a : Bool) → (a || false) ≡ a
or_none true = refl
or_none false = refl

-- a plain byte adds to the hash alone
pub next-plain : (e : Ending) (b : ℕ) → is_path_byte b ≡ true → (b == percent_sign) ≡ false → is_slash b ≡ false
    → e.ended ≡ false → next_ending e b ≡ record { hash = next_hash e.hash b; encoded = e.encoded; ended = e.ended }
next-plain e b path encoded plain goes_on =
    next-within e b plain goes_on
    ∙ ap₂ (ending_with (next_hash e.hash b)) (ap (λ c. e.encoded || c) encoded ∙ or_none e.encoded) (ap not path ∙ sym goes_on) where
      ending_with : ℕ → Bool → Bool → Ending
      ending_with hash first ended = record { hash = hash; encoded = first; ended = ended }

-- an other byte is no slash
pub other-not_slash : (b : ℕ) → is_other_byte b ≡ true → is_slash b ≡ false
other-not_slash b other = elim (cases_Bool (is_slash b)) [
  | inl is ↦
      let same : b ≡ slash = eqb-true b slash is in
      absurd (true≢false (sym (subst (λ c. is_other_byte c ≡ true) same other)))
  | inr plain ↦ plain
]

-- at a byte that doesn't go on a path, the text ends
pub next-other : (e : Ending) (b : ℕ) → is_slash b ≡ false → is_other_byte b ≡ true → (next_ending e b).ended ≡ true
next-other e b plain other = ap (λ (f : Ending). f.ended) (cond-false (is_slash b) _ _ plain) ∙ other

-- after an end it doesn't matter what came before
restart : (e f : Ending) (b : ℕ) → e.ended ≡ true → f.ended ≡ true → is_slash b ≡ false → next_ending e b ≡ next_ending f b
restart e f b ended also plain = next-anew e b plain ended ∙ sym (next-anew f b plain also)

pub fold-ended : (text : List ℕ) (e f : Ending) → e.ended ≡ true → f.ended ≡ true → has_name text ≡ true
    → fold next_ending e text ≡ fold next_ending f text
fold-ended [] e f ended also some = absurd (true≢false (sym some))
fold-ended (b ∷ bs) e f ended also some = elim (cases_Bool (is_slash b)) [
  | inl slashed ↦
      fold-ended bs (next_ending e b) (next_ending f b) (ap (λ (g : Ending). g.ended) (next-slash e b slashed))
      (ap (λ (g : Ending). g.ended) (next-slash f b slashed))
      (sym (ap (λ c. not c || has_name bs) slashed) ∙ some)
  | inr plain ↦ ap (λ g. fold next_ending g bs) (restart e f b ended also plain)
]

-- ---- a name alone

or_assoc : (a b c : Bool) → ((a || b) || c) ≡ (a || (b || c))
or_assoc true b c = refl
or_assoc false b c = refl

-- a text without a slash, of bytes that go on a path
pub record IsAlone (text : List ℕ) : Type 0 where
  pub no_slash : list_any is_slash text ≡ false
  pub no_other : others_in text ≡ 0

-- what comes after its first byte is one too
alone-rest : (b : ℕ) (bs : List ℕ) → IsAlone (b ∷ bs)
    → (is_slash b ≡ false) × ((is_other_byte b ≡ false) × IsAlone bs)
alone-rest b bs alone =
    let (plain, rest) = or_parts (is_slash b) (list_any is_slash bs) alone.no_slash in
    let more : others_in (b ∷ bs) ≡ cond (is_other_byte b) 1 0 + others_in bs =
    sum_by-cons (λ c. cond (is_other_byte c) 1 0) b bs in
    elim (cases_Bool (is_other_byte b)) [
      | inl other ↦
          let one : cond {A = ℕ} (is_other_byte b) 1 0 ≡ 1 = ap (λ t. cond t 1 0) other in
          absurd (omega (arith, more, one, alone.no_other))
      | inr path ↦
          let none : others_in bs ≡ 0 = omega (arith, more, alone.no_other) in
          (plain, (path, record { no_slash = rest; no_other = none }))
    ]

-- such bytes go on a name: its hash, and whether it has a percent sign
abbrev GoesOn : Ending → List ℕ → Ending → Type 0
GoesOn before text after = (after.hash ≡ fold next_hash before.hash text)
    × (after.encoded ≡ (before.encoded || list_any (λ b. b == percent_sign) text))

goes_on : (text : List ℕ) (e : Ending) → e.ended ≡ false → IsAlone text → GoesOn e text (fold next_ending e text)
goes_on [] e goes alone = (refl, sym (or_none e.encoded))
goes_on (b ∷ bs) e goes alone =
    let (plain, (path, rest)) = alone-rest b bs alone in
    let next : next_ending e b ≡ with_byte e b = next-within e b plain goes in
    let (hash, encoded) = goes_on bs (with_byte e b) path rest in (
      ap (λ f. (fold next_ending f bs).hash) next ∙ hash,
      ap (λ f. (fold next_ending f bs).encoded) next ∙ encoded
          ∙ or_assoc e.encoded (b == percent_sign) (list_any (λ c. c == percent_sign) bs),
    )

-- such a text is what it ends in
pub ending_of-alone : (text : List ℕ) → IsAlone text → ((ending_of text).hash ≡ hash_of text)
    × ((ending_of text).encoded ≡ list_any (λ b. b == percent_sign) text)
ending_of-alone [] alone = (refl, refl)
ending_of-alone (b ∷ bs) alone =
    let (plain, (path, rest)) = alone-rest b bs alone in
    let next : next_ending no_ending b ≡ with_byte no_ending b = next-anew no_ending b plain refl in
    let (hash, encoded) = goes_on bs (with_byte no_ending b) path rest in (
      ap (λ f. (fold next_ending f bs).hash) next ∙ hash,
      ap (λ f. (fold next_ending f bs).encoded) next ∙ encoded,
    )

-- ---- the last component

-- the last of some steps
abbrev last_step : Step → List Step → Step
last_step c [] = c
last_step c (d ∷ ds) = last_step d ds

last_step-append : (c : Step) (cs : List Step) (d : Step) (ds : List Step) → last_step c (cs ++ d ∷ ds) ≡ last_step d ds
last_step-append c [] d ds = refl
last_step-append c (e ∷ cs) d ds = last_step-append e cs d ds

last_step-curs : (c : Step) (k : ℕ) → (last_step c (replicate k cur) ≡ c) ⊎ (last_step c (replicate k cur) ≡ cur)
last_step-curs c zero = inl refl
last_step-curs c (suc k) = elim (last_step-curs cur k) [
  | inl is ↦ inr is
  | inr is ↦ inr is
]

abbrev IsUp : Step → Bool
IsUp cur = false
IsUp up = true
IsUp (name n) = false

-- a list that ends in `..` has no file name
last_name-up : (cs : List Step) (n : List ℕ) → last_name (cs ++ up ∷ []) ≡ Some n → ⊥
last_name-up cs n is =
    let (k, joined) = last_name-split (cs ++ up ∷ []) n is in
    let here : last_step cur (cs ++ up ∷ []) ≡ up = last_step-append cur cs up [] in
    let there : last_step cur (cs ++ up ∷ []) ≡ last_step (name n) (replicate k cur) =
    ap (last_step cur) joined ∙ last_step-append cur (kept (cs ++ up ∷ [])) (name n) (replicate k cur) in
    elim (last_step-curs (name n) k) [
      | inl same ↦ true≢false (ap IsUp (sym here ∙ there ∙ same))
      | inr same ↦ true≢false (ap IsUp (sym here ∙ there ∙ same))
    ]

-- a piece of a text that comes last: it is `.`, or it is the file name
last_name-piece : (cs : List Step) (p n : List ℕ) → last_name (cs ++ classed p ∷ []) ≡ Some n
    → (p ≡ step_text cur) ⊎ (p ≡ n)
last_name-piece cs p n is = of (bytes_eq p (step_text cur)) (bytes_eq p (step_text up)) (bytes_eq-Decides p (step_text cur)).0 is where
  of : (a b : Bool) → (a ≡ true → p ≡ step_text cur) → last_name (cs ++ cond a cur (cond b up (name p)) ∷ []) ≡ Some n
      → (p ≡ step_text cur) ⊎ (p ≡ n)
  of true b dot is = inl (dot refl)
  of false true dot is = absurd (last_name-up cs n is)
  of false false dot is = inr (same_Some p n (sym (last_name-name cs p) ∙ is))

-- ---- a text, cut at its last slash

abbrev NoSlash : List ℕ → Type 0
NoSlash text = AllByRecursion (λ b. is_slash b ≡ false) text

-- the text has no slash, or this is what comes before and after its last slash
abbrev LastCut : List ℕ → Type 0
LastCut text = NoSlash text ⊎ ((front : List ℕ) × (rest : List ℕ) × (text ≡ front ++ slash ∷ rest) × NoSlash rest)

last_cut : (text : List ℕ) → LastCut text
last_cut [] = inl tt
last_cut (b ∷ text) = elim (last_cut text) [
  | inr (front, rest, is, none) ↦ inr (b ∷ front, rest, ap (λ t. b ∷ t) is, none)
  | inl none ↦ elim (cases_Bool (is_slash b)) [
    | inl slashed ↦ inr ([], text, ap (λ c. c ∷ text) (eqb-true b slash slashed), none)
    | inr plain ↦ inl (plain, none)
  ]
]

-- a text that ends in a slash has its separator
separated : (front : List ℕ) → with_separator (front ++ slash ∷ []) ≡ front ++ slash ∷ []
separated [] = refl
separated (x ∷ xs) = cond-true (get_or (x ∷ xs ++ slash ∷ []) (length (xs ++ slash ∷ [])) 0 == slash) _ _ (eq-eqb _ slash last) where
  last : get_or (x ∷ xs ++ slash ∷ []) (length (xs ++ slash ∷ [])) 0 ≡ slash
  last =
      let at : length (xs ++ slash ∷ []) ≡ length (x ∷ xs) + 0 = omega (arith, length-append xs (slash ∷ [])) in
      ap (λ n. get_or (x ∷ xs ++ slash ∷ []) n 0) at ∙ get_or-append-add (x ∷ xs) (slash ∷ []) 0 0

components-after : (front : List ℕ) (b : ℕ) (bs : List ℕ) → is_slash b ≡ false
    → components (front ++ slash ∷ b ∷ bs) ≡ components front ++ components (b ∷ bs)
components-after front b bs plain =
    let whole : pushed (front ++ slash ∷ []) (b ∷ bs) ≡ front ++ slash ∷ b ∷ bs =
    ap (λ t. with_separator (front ++ slash ∷ []) ++ t) (cond-false (is_slash b) bs (b ∷ bs) plain)
    ∙ ap (λ t. t ++ b ∷ bs) (separated front) ∙ append_assoc front (slash ∷ []) (b ∷ bs) in
    ap components (sym whole) ∙ components-pushed (front ++ slash ∷ []) (b ∷ bs)
    ∙ ap (λ cs. cs ++ components (b ∷ bs)) (components-trailing_slash front)

none_some : {X : Type 0} {x : X} → None ≡ Some x → ⊥
none_some is = true≢false (sym (ap is_some is))

file_name-empty : file_name_of [] ≡ None
unfolding components pieces
file_name-empty = refl

file_name-slash : (text : List ℕ) → file_name_of (slash ∷ text) ≡ file_name_of text
unfolding components pieces
file_name-slash text = refl

-- slashes alone have no file name
file_name-slashes : (text : List ℕ) → has_name text ≡ false → file_name_of text ≡ None
file_name-slashes [] none = file_name-empty
file_name-slashes (b ∷ bs) none = elim (cases_Bool (is_slash b)) [
  | inl slashed ↦
      ap (λ c. file_name_of (c ∷ bs)) (eqb-true b slash slashed) ∙ file_name-slash bs
      ∙ file_name-slashes bs (sym (ap (λ c. not c || has_name bs) slashed) ∙ none)
  | inr plain ↦ absurd (true≢false (sym (ap (λ c. not c || has_name bs) plain) ∙ none))
]

-- so a text with a file name has a byte that is no slash
pub has_name-named : (text n : List ℕ) → file_name_of text ≡ Some n → has_name text ≡ true
has_name-named text n is = elim (cases_Bool (has_name text)) [
  | inl some ↦ some
  | inr none ↦ absurd (none_some (sym (file_name-slashes text none) ∙ is))
]

components-piece : (b : ℕ) (bs : List ℕ) → NoSlash (b ∷ bs) → components (b ∷ bs) ≡ classed (b ∷ bs) ∷ []
unfolding components pieces
components-piece b bs none =
    rw (slice_split_none is_slash (b ∷ bs) (All-from_recursion (λ x. is_slash x ≡ false) (b ∷ bs) none)) refl

no_slash : (text : List ℕ) → list_any is_slash text ≡ false → NoSlash text
no_slash [] none = tt
no_slash (b ∷ bs) none =
    let (plain, rest) = or_parts (is_slash b) (list_any is_slash bs) none in (plain, no_slash bs rest)

-- a text without a slash that has a file name is this name
pub components-alone : (text n : List ℕ) → list_any is_slash text ≡ false → file_name_of text ≡ Some n
    → components text ≡ name text ∷ []
components-alone [] n none is = absurd (none_some (sym file_name-empty ∙ is))
components-alone (b ∷ bs) n none is =
    piece ∙ ap (λ c. c ∷ []) (of (bytes_eq p (step_text cur)) (bytes_eq p (step_text up)) (sym (ap last_name piece) ∙ is)) where
      p : List ℕ
      p = b ∷ bs

      piece : components p ≡ classed p ∷ []
      piece = components-piece b bs (no_slash p none)

      of : (a c : Bool) → last_name (cond a cur (cond c up (name p)) ∷ []) ≡ Some n
          → cond a cur (cond c up (name p)) ≡ name p
      of true c named = absurd (none_some named)
      of false true named = absurd (none_some named)
      of false false named = refl

-- ---- the file name of a text

-- the text ends as the name does, or in `.`
abbrev pub EndsAs : List ℕ → List ℕ → Type 0
EndsAs text n = ((ending_of text).hash ≡ 46) ⊎ ((ending_of text).hash ≡ (ending_of n).hash)

ends-piece : (cs : List Step) (p n : List ℕ) → last_name (cs ++ classed p ∷ []) ≡ Some n → EndsAs p n
ends-piece cs p n is = elim (last_name-piece cs p n is) [
  | inl dot ↦ inl (ap (λ t. (ending_of t).hash) dot)
  | inr same ↦ inr (ap (λ t. (ending_of t).hash) same)
]

ends-whole : (text n : List ℕ) → NoSlash text → file_name_of text ≡ Some n → EndsAs text n
ends-whole [] n none is = absurd (none_some (sym file_name-empty ∙ is))
ends-whole (b ∷ bs) n none is = ends-piece [] (b ∷ bs) n (sym (ap last_name (components-piece b bs none)) ∙ is)

-- what comes after a slash ends as by itself
ends-after : (front : List ℕ) (b : ℕ) (bs : List ℕ) → is_slash b ≡ false
    → ending_of (front ++ slash ∷ b ∷ bs) ≡ ending_of (b ∷ bs)
ends-after front b bs plain =
    fold-append next_ending no_ending front (slash ∷ b ∷ bs)
    ∙ ap (λ e. fold next_ending e bs) (restart (next_ending (ending_of front) slash) no_ending b refl refl plain)

ends-slash : (front : List ℕ) → (ending_of (front ++ slash ∷ [])).hash ≡ (ending_of front).hash
ends-slash front = ap (λ (e : Ending). e.hash) (fold-append next_ending no_ending front (slash ∷ []))

ends-cut : (front rest n : List ℕ) → (file_name_of front ≡ Some n → EndsAs front n) → NoSlash rest
    → file_name_of (front ++ slash ∷ rest) ≡ Some n → EndsAs (front ++ slash ∷ rest) n
ends-cut front [] n before none is =
    subst (λ h. (h ≡ 46) ⊎ (h ≡ (ending_of n).hash)) (sym (ends-slash front))
    (before (sym (ap last_name (components-trailing_slash front)) ∙ is))
ends-cut front (b ∷ bs) n before none is =
    let cs = components front in
    let joined : components (front ++ slash ∷ b ∷ bs) ≡ cs ++ classed (b ∷ bs) ∷ [] =
    components-after front b bs none.0 ∙ ap (λ ds. cs ++ ds) (components-piece b bs none) in
    subst (λ (e : Ending). (e.hash ≡ 46) ⊎ (e.hash ≡ (ending_of n).hash)) (sym (ends-after front b bs none.0))
    (ends-piece cs (b ∷ bs) n (sym (ap last_name joined) ∙ is))

ends-within : (k : ℕ) (text n : List ℕ) → length text ≤ k → file_name_of text ≡ Some n → EndsAs text n
ends-within zero [] n short is = ends-whole [] n tt is
ends-within zero (b ∷ bs) n short is = absurd (omega (arith, short))
ends-within (suc k) text n short is = elim (last_cut text) [
  | inl none ↦ ends-whole text n none is
  | inr (front, rest, joined, none) ↦
      let before : length front ≤ k = omega (arith, short, ap length joined, length-append front (slash ∷ rest)) in
      subst (λ t. EndsAs t n) (sym joined)
      (ends-cut front rest n (λ named. ends-within k front n before named) none (subst (λ t. file_name_of t ≡ Some n) joined is))
]

-- a text ends as its file name does, or in `.`
pub ends-name : (text n : List ℕ) → file_name_of text ≡ Some n → EndsAs text n
ends-name text n is = ends-within (length text) text n (omega arith) is

-- ---- a text that is decoded

-- both are equal, or the first has a percent sign and goes on at least as long
abbrev Follows : Ending → Ending → Type 0
Follows e f = (e ≡ f) ⊎ ((e.encoded ≡ true) × (e.ended ≡ true → f.ended ≡ true))

-- it has a percent sign, and hasn't ended
abbrev IsEncoded : Ending → Type 0
IsEncoded e = (e.encoded ≡ true) × (e.ended ≡ false)

Follows-encoded : (e f : Ending) → IsEncoded e → Follows e f
Follows-encoded e f (encoded, plain) = inr (encoded, λ is. absurd (true≢false (sym is ∙ plain)))

encoded-next : (e : Ending) (b : ℕ) → is_slash b ≡ false → is_other_byte b ≡ false → IsEncoded e
    → IsEncoded (next_ending e b)
encoded-next e b plain path (encoded, goes_on) =
    let is : next_ending e b ≡ with_byte e b = next-within e b plain goes_on in (
      ap (λ (g : Ending). g.encoded) is ∙ or_left e.encoded (b == percent_sign) encoded,
      ap (λ (g : Ending). g.ended) is ∙ path,
    )

Follows-next : (e f : Ending) (b : ℕ) → Follows e f → Follows (next_ending e b) (next_ending f b)
Follows-next e f b (inl same) = inl (ap (λ g. next_ending g b) same)
Follows-next e f b (inr (encoded, goes)) = elim (cases_Bool (is_slash b)) [
  | inl is ↦
      inr (ap (λ (g : Ending). g.encoded) (next-slash e b is) ∙ encoded, λ _. ap (λ (g : Ending). g.ended) (next-slash f b is))
  | inr plain ↦ elim (cases_Bool e.ended) [
    | inl ended ↦ inl (restart e f b ended (goes ended) plain)
    | inr goes_on ↦
        inr (
          ap (λ (g : Ending). g.encoded) (next-within e b plain goes_on) ∙ or_left e.encoded (b == percent_sign) encoded,
          λ is.
              next-other f b plain (sym (ap (λ (g : Ending). g.ended) (next-within e b plain goes_on)) ∙ is),
        )
  ]
]

-- a hexadecimal digit is a path byte, and no slash
abbrev ends_a_name : ℕ → Bool
ends_a_name b = is_digit b 16 && (is_slash b || is_other_byte b)

digit_value-large : (b : ℕ) → 128 ≤ b → digit_value b ≡ 36
digit_value-large b more = grind (arith, le-ltb)

digit-small : (b : ℕ) → is_digit b 16 ≡ true → b < 128
digit-small b is = elim (cases_lt b 128) [
  | inl less ↦ less
  | inr more ↦ absurd (omega (arith, ltb-true (digit_value b) 16 is, digit_value-large b more))
]

digit-goes_on : (b : ℕ) → is_digit b 16 ≡ true → (is_slash b ≡ false) × (is_other_byte b ≡ false)
digit-goes_on b is =
    let none = agree_below_at ends_a_name (λ c. false) 128 b refl (digit-small b is) in
    let plain : (is_slash b || is_other_byte b) ≡ false = sym (ap (λ t. t && (is_slash b || is_other_byte b)) is) ∙ none in
    or_parts (is_slash b) (is_other_byte b) plain

encoded-digit : (e : Ending) (b : ℕ) → is_digit b 16 ≡ true → IsEncoded e → IsEncoded (next_ending e b)
encoded-digit e b is encoded =
    let (plain, path) = digit-goes_on b is in encoded-next e b plain path encoded

encoded-percent : (e : Ending) → IsEncoded (next_ending e percent_sign)
encoded-percent e = elim (cases_Bool e.ended) [
  | inl ended ↦ subst IsEncoded (sym (restart e no_ending percent_sign ended refl refl)) (refl, refl)
  | inr goes_on ↦
      subst IsEncoded (sym (next-within e percent_sign refl goes_on)) (or_right e.encoded true refl, refl)
]

Follows-escape : (e f : Ending) (b high low v : ℕ) → is_escape b high low ≡ true
    → Follows (next_ending (next_ending (next_ending e b) high) low) (next_ending f v)
Follows-escape e f b high low v is =
    let (first, other) = and_parts (b == percent_sign && is_digit high 16) (is_digit low 16) is in
    let (begins, one) = and_parts (b == percent_sign) (is_digit high 16) first in
    let begun : IsEncoded (next_ending e b) =
    subst (λ c. IsEncoded (next_ending e c)) (sym (eqb-true b percent_sign begins)) (encoded-percent e) in
    Follows-encoded _ (next_ending f v) (encoded-digit _ low other (encoded-digit _ high one begun))

follows : (bytes : List ℕ) (e f : Ending) → Follows e f
    → Follows (fold next_ending e bytes) (fold next_ending f (percent_decode bytes))
unfolding percent_decode
follows [] e f are = are
follows (b ∷ []) e f are = Follows-next e f b are
follows (b ∷ c ∷ []) e f are = Follows-next (next_ending e b) (next_ending f b) c (Follows-next e f b are)
follows (b ∷ high ∷ low ∷ rest) e f are =
    of (is_escape b high low) refl
    (λ g h both. follows rest g h both) (λ g h both. follows (high ∷ low ∷ rest) g h both) where
      of : (t : Bool) → is_escape b high low ≡ t
          → ((g h : Ending) → Follows g h → Follows (fold next_ending g rest) (fold next_ending h (percent_decode rest)))
          → ((g h : Ending) → Follows g h
          → Follows (fold next_ending g (high ∷ low ∷ rest)) (fold next_ending h (percent_decode (high ∷ low ∷ rest))))
          → Follows (fold next_ending e (b ∷ high ∷ low ∷ rest)) (fold next_ending f
          (cond t ((16 * digit_value high + digit_value low) ∷ percent_decode rest) (b ∷ percent_decode (high ∷ low ∷ rest))))
      of true is after later =
          let v = 16 * digit_value high + digit_value low in
          after (next_ending (next_ending (next_ending e b) high) low) (next_ending f v) (Follows-escape e f b high low v is)
      of false is after later = later (next_ending e b) (next_ending f b) (Follows-next e f b are)

-- bytes end as what they are decoded to, or with a percent sign
pub ends-decoded : (bytes : List ℕ) → (ending_of bytes ≡ ending_of (percent_decode bytes)) ⊎ ((ending_of bytes).encoded ≡ true)
ends-decoded bytes = elim (follows bytes no_ending no_ending (inl refl)) [
  | inl same ↦ inl same
  | inr (encoded, goes) ↦ inr encoded
]
