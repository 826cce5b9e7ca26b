-- Numbers by their decimal digits, without a greatest one.
use Rattle.std.specs.Prelude.{◌≡◌, ◌≤◌, ℕ, zero, suc, ◌+◌, List, ◌++◌, codes, map}
use Rattle.std.specs.Int.Digits.{digits_of, number_from_digits}
use mathlib.Core.List.{reverse}

-- the digits of a number, the units first; 0 has none
abbrev pub units_first : ℕ → List ℕ
units_first n = reverse (digits_of 10 n)

-- the number with these digits, the units first
abbrev pub number_of : List ℕ → ℕ
number_of digits = number_from_digits 10 (reverse digits)

-- they are the digits of a number
abbrev pub AreDigits : List ℕ → Type 0
AreDigits digits = digits ≡ units_first (number_of digits)

-- what is written of a number; `decimal` writes the same of a number that has at most 64 digits
abbrev pub numeral : ℕ → List ℕ
numeral zero = codes "0"
numeral (suc n) = map (λ digit. 48 + digit) (digits_of 10 (suc n))

-- 1 is being added to the number n: these digits of the next number are made, and those are left of n, to which the carry
-- is added
pub record IsCarried (n : ℕ) (left made : List ℕ) (carry : ℕ) : Type 0 where
  pub small : carry ≤ 1
  pub rest : ℕ
  pub left_is : left ≡ units_first rest
  pub made_is : made ++ units_first (rest + carry) ≡ units_first (n + 1)
