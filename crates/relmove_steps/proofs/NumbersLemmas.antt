-- Numbers and their decimal digits.
use Rattle.std.proofs.Common.{◌≡◌, ◌≢◌, ℕ, zero, suc, ◌<◌, ◌≤◌, ◌+◌, ◌/◌, ◌%◌, List, [], ◌∷◌, ◌++◌, All, map, refl, sym, ap, ap₂, ◌∙◌, append_assoc, append-nil, arith}
use mathlib.Core.List.{reverse}
use Rattle.std.specs.Int.Digits.{digits_of, number_from_digits}
use Rattle.std.proofs.lemmas.Int.Digits.{all_below_base_digits_of, digits_of_step, number_digits_of, same_from_digits_of}
use Rattle.std.proofs.lemmas.List.{reverse-append, reverse-reverse}
use Rattle.std.proofs.lemmas.List.Elements.{All-from_recursion}
use Rattle.std.proofs.lemmas.List.Sorted.{All-permutation, IsPermutation-reverse}
use Rattle.relmove_steps.specs.Numbers.{units_first, number_of, AreDigits, numeral, IsCarried}

-- ---- the digits of a number

pub number_of-units_first : (n : ℕ) → number_of (units_first n) ≡ n
number_of-units_first n = rw (reverse-reverse (digits_of 10 n)) (number_digits_of 10 n (omega arith))

pub AreDigits-units_first : (digits : List ℕ) (n : ℕ) → digits ≡ units_first n → AreDigits digits
AreDigits-units_first digits n is = is ∙ ap units_first (sym (ap number_of is ∙ number_of-units_first n))

-- the units, and then the other digits
units_first-step : (n : ℕ) → 0 < n → units_first n ≡ n % 10 ∷ units_first (n / 10)
units_first-step n some =
    ap reverse (digits_of_step 10 n (omega arith) some) ∙ reverse-append (digits_of 10 (n / 10)) (n % 10 ∷ [])

pub digits_small : (n : ℕ) → All (λ digit. digit < 10) (units_first n)
digits_small n =
    All-permutation (λ digit. digit < 10) (digits_of 10 n) (units_first n) (IsPermutation-reverse (digits_of 10 n))
    (All-from_recursion (λ digit. digit < 10) (digits_of 10 n) (all_below_base_digits_of 10 n (omega arith)))

-- ---- the next number

-- the digit that is next, and the others
IsCarried-digit : (n digit carry : ℕ) (left made : List ℕ) (is : IsCarried n (digit ∷ left) made carry)
    → (0 < is.rest) × (digit ≡ is.rest % 10) × (left ≡ units_first (is.rest / 10))
IsCarried-digit n digit carry left made is = by is.rest is.left_is
  where
    by : (rest : ℕ) → digit ∷ left ≡ units_first rest → (0 < rest) × (digit ≡ rest % 10) × (left ≡ units_first (rest / 10))
    by zero none = absurd (cc)
    by (suc m) same =
        let all : digit ∷ left ≡ suc m % 10 ∷ units_first (suc m / 10) = same ∙ units_first-step (suc m) (omega arith) in
        (omega arith, cc, cc)

pub IsCarried-small : (n digit carry : ℕ) (left made : List ℕ) → IsCarried n (digit ∷ left) made carry
    → digit + carry ≤ 10
IsCarried-small n digit carry left made is =
    let small = is.small in
    let (some, digit_is, left_is) = IsCarried-digit n digit carry left made is in
    omega (arith, small, digit_is)

pub IsCarried-next : (n digit carry : ℕ) (left made : List ℕ) → IsCarried n (digit ∷ left) made carry
    → IsCarried n left (made ++ (digit + carry) % 10 ∷ []) ((digit + carry) / 10)
IsCarried-next n digit carry left made is =
    let small = is.small in
    let rest = is.rest in
    let (some, digit_is, left_is) = IsCarried-digit n digit carry left made is in
    let units : (rest + carry) % 10 ≡ (digit + carry) % 10 = omega (arith, small, digit_is) in
    let others : (rest + carry) / 10 ≡ rest / 10 + (digit + carry) / 10 = omega (arith, small, digit_is) in
    let step : units_first (rest + carry) ≡ (digit + carry) % 10 ∷ units_first (rest / 10 + (digit + carry) / 10) =
    units_first-step (rest + carry) (omega (arith, some))
    ∙ ap₂ (λ digit more. digit ∷ units_first more) units others in
    record {
      small = omega (arith, small, digit_is);
      rest = rest / 10;
      left_is = left_is;
      made_is = append_assoc made ((digit + carry) % 10 ∷ []) (units_first (rest / 10 + (digit + carry) / 10))
          ∙ ap (λ more. made ++ more) (sym step) ∙ is.made_is;
    }

-- no digit is left
IsCarried-rest : (n carry : ℕ) (made : List ℕ) (is : IsCarried n [] made carry) → is.rest ≡ 0
IsCarried-rest n carry made is = by is.rest is.left_is
  where
    by : (rest : ℕ) → [] ≡ units_first rest → rest ≡ 0
    by zero none = refl
    by (suc m) same =
        let all : [] ≡ suc m % 10 ∷ units_first (suc m / 10) = same ∙ units_first-step (suc m) (omega arith) in
        absurd (cc)

pub IsCarried-none : (n carry : ℕ) (made : List ℕ) → IsCarried n [] made carry → carry ≡ 0 → made ≡ units_first (n + 1)
IsCarried-none n carry made is none =
    let total : is.rest + carry ≡ 0 = omega (arith, IsCarried-rest n carry made is, none) in
    sym (append-nil made) ∙ ap (λ total. made ++ units_first total) (sym total) ∙ is.made_is

pub IsCarried-last : (n carry : ℕ) (made : List ℕ) → IsCarried n [] made carry → 0 < carry
    → made ++ carry ∷ [] ≡ units_first (n + 1)
IsCarried-last n carry made is some =
    let small = is.small in
    let total : is.rest + carry ≡ 1 = omega (arith, IsCarried-rest n carry made is, small, some) in
    let one : carry ≡ 1 = omega (arith, small, some) in
    ap (λ carry. made ++ carry ∷ []) one ∙ ap (λ total. made ++ units_first total) (sym total) ∙ is.made_is

-- ---- what is written

pub numeral-digits : (n : ℕ) → 0 < n → map (λ digit. 48 + digit) (reverse (units_first n)) ≡ numeral n
numeral-digits zero some = absurd (omega (arith, some))
numeral-digits (suc n) some = ap (map (λ digit. 48 + digit)) (reverse-reverse (digits_of 10 (suc n)))

digits_injective : (one other : List ℕ) → map (λ digit. 48 + digit) one ≡ map (λ digit. 48 + digit) other → one ≡ other
digits_injective [] [] same = refl
digits_injective [] (e ∷ other) same = absurd (cc)
digits_injective (d ∷ one) [] same = absurd (cc)
digits_injective (d ∷ one) (e ∷ other) same =
    let first : 48 + d ≡ 48 + e = cc in
    ap₂ (λ digit more. digit ∷ more) (omega (arith, first)) (digits_injective one other (cc))

is_not_zero : (n : ℕ) → map (λ digit. 48 + digit) (digits_of 10 (suc n)) ≢ 48 ∷ []
is_not_zero n same =
    let digits = digits_injective (digits_of 10 (suc n)) (0 ∷ []) same in
    let is : suc n ≡ 0 = sym (number_digits_of 10 (suc n) (omega arith)) ∙ ap (number_from_digits 10) digits in
    absurd (omega (arith, is))

pub numeral_injective : (one other : ℕ) → numeral one ≡ numeral other → one ≡ other
numeral_injective zero zero same = refl
numeral_injective zero (suc m) same = absurd (is_not_zero m (sym same))
numeral_injective (suc n) zero same = absurd (is_not_zero n same)
numeral_injective (suc n) (suc m) same =
    same_from_digits_of 10 (suc n) (suc m) (omega arith) (digits_injective (digits_of 10 (suc n)) (digits_of 10 (suc m)) same)
