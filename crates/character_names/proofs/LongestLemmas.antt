-- The longest name that a text begins with.
use Rattle.std.proofs.Common.{◌≡◌, ℕ, zero, suc, ◌+◌, ◌-◌, ◌<◌, ◌≤◌, Bool, true, false, not, List, length, take, get_or, Option, Some, None, refl, sym, ap, ◌∙◌, arith, subst, ◌⊎◌, inl, inr}
use Rattle.std.proofs.lemmas.Bool.{cases_lt}
use Rattle.std.proofs.lemmas.List.{get_or-take, length-take-le}
use Rattle.std.proofs.lemmas.List.Folds.{list_all_at}
use Rattle.std.proofs.lemmas.List.Quantifiers.{position-Some}
use Rattle.std.specs.Char.{is_ascii_alphanumeric}
use Rattle.std.specs.List.{position}
use Rattle.character_names.specs.declared.characters.Characters.{Characters}
use Rattle.character_names.specs.Names.{characters_of, ends_name, or_shorter, longest_within, longest_name, IsLongest}
use Rattle.character_names.proofs.TableLemmas.{has_form, rows-form, characters_of-passes, characters_of-empty}

pub longest_within-here : (n : ℕ) (text : List ℕ) (v : Characters) → 0 < n → Some v ≡ characters_of (take n text)
    → Some (n, v) ≡ longest_within n text
longest_within-here zero text v some is = absurd (omega (arith, some))
longest_within-here (suc n) text v some is = ap (λ o. or_shorter (suc n) o (longest_within n text)) is

pub longest_within-end : (n : ℕ) (text : List ℕ) → n ≤ 0 → None ≡ longest_within n text
longest_within-end zero text at = refl
longest_within-end (suc n) text at = absurd (omega (arith, at))

-- no name is longer
longest_within-shorter : (total n : ℕ) (text : List ℕ) → n ≤ total
    → ((m : ℕ) → n < m → m ≤ total → characters_of (take m text) ≡ None)
    → longest_within n text ≡ longest_within total text
longest_within-shorter zero n text within none =
    let same : n ≡ 0 = omega (arith, within) in
    ap (λ k. longest_within k text) same
longest_within-shorter (suc total) n text within none =
    of (cases_lt total n) (λ below. longest_within-shorter total n text below (λ m past most. none m past (omega (arith, most)))) where
      of : (total < n) ⊎ (n ≤ total) → (n ≤ total → longest_within n text ≡ longest_within total text)
          → longest_within n text ≡ longest_within (suc total) text
      of (inl above) shorter =
          let same : n ≡ suc total = omega (arith, above, within) in
          ap (λ k. longest_within k text) same
      of (inr below) shorter =
          shorter below
          ∙ ap (λ o. or_shorter (suc total) o (longest_within total text)) (sym (none (suc total) (omega (arith, below)) (omega arith)))

-- a text with a byte before its last that is no letter and no digit is no name
no_name : (text : List ℕ) (k m : ℕ) → ends_name (get_or text k 0) ≡ true → k + 1 < m → m ≤ length text
    → (o : Option Characters) → characters_of (take m text) ≡ o → o ≡ None
no_name text k m ends past within None is = refl
no_name text k m ends past within (Some v) is =
    let form = characters_of-passes (λ row. has_form row.0) rows-form (take m text) v is in
    let count = length-take-le m text within in
    let inside : k < length (take m text) - 1 = omega (arith, past, count) in
    let short : length (take m text) - 1 ≤ length (take m text) = omega arith in
    let few = length-take-le (length (take m text) - 1) (take m text) short in
    let read : get_or (take (length (take m text) - 1) (take m text)) k 0 ≡ get_or text k 0 =
    get_or-take (length (take m text) - 1) (take m text) k 0 inside ∙ get_or-take m text k 0 (omega (arith, past)) in
    let other : is_ascii_alphanumeric (get_or text k 0) ≡ false = of (is_ascii_alphanumeric (get_or text k 0)) ends in
    let not_all = list_all_at is_ascii_alphanumeric (take (length (take m text) - 1) (take m text)) k 0 (omega (arith, inside, few))
    (ap is_ascii_alphanumeric read ∙ other) in
    absurd (true_not_false (sym form ∙ not_all)) where
      of : (t : Bool) → not t ≡ true → t ≡ false
      of true is = absurd (cc)
      of false is = refl

      true_not_false : true ≡ false → ⊥
      true_not_false is = absurd (cc)

pub longest_within-candidate : (text : List ℕ) (end : ℕ) → Some end ≡ position ends_name text
    → longest_within (end + 1) text ≡ longest_name text
unfolding longest_name
longest_within-candidate text end is =
    let found = position-Some ends_name text end 0 (sym is) in
    longest_within-shorter (length text) (end + 1) text (omega (arith, found.0))
    (λ m past within. no_name text end m found.1 past within (characters_of (take m text)) refl)

-- ---- what the definition finds is the longest name

-- the longest name of at most so many bytes
abbrev IsLongestWithin : ℕ → List ℕ → Option (ℕ × Characters) → Type 0
IsLongestWithin most text None = (m : ℕ) → m ≤ most → characters_of (take m text) ≡ None
IsLongestWithin most text (Some (n, v)) =
    (n ≤ most) × (characters_of (take n text) ≡ Some v)
    × ((m : ℕ) → n < m → m ≤ most → characters_of (take m text) ≡ None)

none-more : (most : ℕ) (text : List ℕ) (m : ℕ) → (m ≤ most → characters_of (take m text) ≡ None)
    → characters_of (take (suc most) text) ≡ None → m ≤ suc most → characters_of (take m text) ≡ None
none-more most text m none is within = of (cases_lt most m) where
  of : (most < m) ⊎ (m ≤ most) → characters_of (take m text) ≡ None
  of (inl above) =
      let same : suc most ≡ m = omega (arith, above, within) in
      subst (λ k. characters_of (take k text) ≡ None) same is
  of (inr below) = none below

longest_within-more : (most : ℕ) (text : List ℕ) (shorter : Option (ℕ × Characters)) → IsLongestWithin most text shorter
    → characters_of (take (suc most) text) ≡ None → IsLongestWithin (suc most) text shorter
longest_within-more most text None longest is = λ m within. none-more most text m (λ below. longest m below) is within
longest_within-more most text (Some (n, v)) (within, found, none) is =
    (omega (arith, within), found, λ m past most_at. none-more most text m (λ below. none m past below) is most_at)

longest_within-is : (most : ℕ) (text : List ℕ) → IsLongestWithin most text (longest_within most text)
longest_within-is zero text = λ m within.
    let same : 0 ≡ m = omega (arith, within) in
    subst (λ k. characters_of (take k text) ≡ None) same characters_of-empty
longest_within-is (suc most) text = of (characters_of (take (suc most) text)) refl (longest_within-is most text) where
  of : (o : Option Characters) → characters_of (take (suc most) text) ≡ o → IsLongestWithin most text (longest_within most text)
      → IsLongestWithin (suc most) text (or_shorter (suc most) o (longest_within most text))
  of (Some v) is shorter = (omega arith, is, λ m past within. absurd (omega (arith, past, within)))
  of None is shorter = longest_within-more most text (longest_within most text) shorter is

as_longest : (text : List ℕ) (found : Option (ℕ × Characters)) → IsLongestWithin (length text) text found → IsLongest text found
as_longest text None longest = longest
as_longest text (Some (n, v)) longest = longest

pub longest_name-is : (text : List ℕ) → IsLongest text (longest_name text)
unfolding longest_name
longest_name-is text = as_longest text (longest_name text) (longest_within-is (length text) text)
