-- The elements before the first element that passes a test.
use Rattle.std.proofs.Common.{◌≡◌, ℕ, ◌+◌, Bool, true, false, ◌||◌, not, cond, List, [], ◌∷◌, length, take, Some, None, refl, sym, ap, ◌∙◌, arith, nat_lt}
use Rattle.std.proofs.lemmas.Bool.Decides.{nat_tests}
use Rattle.std.specs.List.{position, position_or_len, list_any, before_first}

any_position : (p : ℕ → Bool) (xs : List ℕ) → list_any p xs ≡ nat_lt (position_or_len p xs) (length xs)
any_position p [] = refl
any_position p (b ∷ bs) = of (p b) (any_position p bs) where
  of : (passes : Bool) → list_any p bs ≡ nat_lt (position_or_len p bs) (length bs)
      → (passes || list_any p bs) ≡ nat_lt (cond (not passes) (1 + position_or_len p bs) 0) (length (b ∷ bs))
  of true rest = grind (arith, nat_tests)
  of false rest = rest ∙ grind (arith, nat_tests)

position_some : (p : ℕ → Bool) (xs : List ℕ) (k : ℕ) → position p xs ≡ Some k
    → (k ≡ position_or_len p xs) × (nat_lt (position_or_len p xs) (length xs) ≡ true)
position_some p xs k is = grind arith

position_none : (p : ℕ → Bool) (xs : List ℕ) → position p xs ≡ None
    → nat_lt (position_or_len p xs) (length xs) ≡ false
position_none p xs is = grind arith

pub list_any-some : (p : ℕ → Bool) (xs : List ℕ) (k : ℕ) → position p xs ≡ Some k → list_any p xs ≡ true
list_any-some p xs k is = any_position p xs ∙ (position_some p xs k is).1

pub before_first-some : (p : ℕ → Bool) (xs : List ℕ) (k : ℕ) → position p xs ≡ Some k → before_first p xs ≡ take k xs
before_first-some p xs k is = ap (λ n. take n xs) (sym (position_some p xs k is).0)

pub list_any-none : (p : ℕ → Bool) (xs : List ℕ) → position p xs ≡ None → list_any p xs ≡ false
list_any-none p xs is = any_position p xs ∙ position_none p xs is
