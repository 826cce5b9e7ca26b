-- The numbers of character references, limited to the first number that isn't that of a character.
use Rattle.std.proofs.Common.{◌≡◌, ℕ, ◌+◌, ◌*◌, ◌<◌, ◌≤◌, min, Bool, true, ◌&&◌, if◌then◌else◌, List, [], ◌∷◌, length, drop, get_or, Option, Some, None, ap, ◌∙◌, arith, ◌⊎◌, inl, inr}
use Rattle.std.proofs.Math.Nat.{mul-le-mul_left}
use Rattle.std.proofs.lemmas.Bool.Decides.{nat_tests}
use Rattle.std.proofs.lemmas.List.{at_drop_more}
use Rattle.std.specs.Char.{digit_value}
use Rattle.std.specs.List.{list_all}
use Rattle.std.specs.Option.{option_map}
use Rattle.std.specs.Str.Parse.{digits_value_after}
use Rattle.target_paths.specs.declared.target.TargetSyntax.{TargetSyntax}
use Rattle.target_paths.specs.declared.target.TargetSyntax.TheVariants.{Markdown, Attribute}
use Rattle.target_paths.specs.CharacterReferences.{character_of}
use Rattle.target_paths.specs.Source.{is_replaced, character_unless_replaced}

-- more digits write a number that isn't smaller
digits_value-ge : (radix number : ℕ) (digits : List ℕ) → 1 ≤ radix → number ≤ digits_value_after radix number digits
digits_value-ge radix number [] some = omega arith
digits_value-ge radix number (b ∷ bs) some =
    let more : number * 1 ≤ number * radix = mul-le-mul_left number some in
    let rest : number * radix + digit_value b ≤ digits_value_after radix (number * radix + digit_value b) bs =
    digits_value-ge radix (number * radix + digit_value b) bs some in
    omega (arith, more, rest)

one_below : (a b : ℕ) → (a ≤ b) ⊎ (b ≤ a)
one_below a b = grind arith

-- a number past the limit is read like the limit
digits_value_after-capped : (radix number cap : ℕ) (digits : List ℕ) → 1 ≤ radix
    → min cap (digits_value_after radix number digits) ≡ min cap (digits_value_after radix (min number cap) digits)
digits_value_after-capped radix number cap digits some = of (one_below number cap) where
  of : (number ≤ cap) ⊎ (cap ≤ number)
      → min cap (digits_value_after radix number digits) ≡ min cap (digits_value_after radix (min number cap) digits)
  of (inl below) = ap (λ n. min cap (digits_value_after radix n digits)) (omega arith)
  of (inr above) =
      let whole : number ≤ digits_value_after radix number digits = digits_value-ge radix number digits some in
      let part : min number cap ≤ digits_value_after radix (min number cap) digits =
      digits_value-ge radix (min number cap) digits some in
      omega (arith, whole, part)

-- the number with one more digit
pub value-next : (radix number digit cap : ℕ) (digits : List ℕ) (k : ℕ) → 1 ≤ radix → k < length digits
    → digit_value (get_or digits k 0) ≡ digit
    → min cap (digits_value_after radix number (drop k digits))
    ≡ min cap (digits_value_after radix (min (number * radix + digit) cap) (drop (k + 1) digits))
value-next radix number digit cap digits k some inside is =
    at_drop_more (λ ds. min cap (digits_value_after radix number ds)) digits k 0 inside
    ∙ ap (λ d. min cap (digits_value_after radix (number * radix + d) (drop (k + 1) digits))) is
    ∙ digits_value_after-capped radix (number * radix + digit) cap (drop (k + 1) digits) some

pub list_all-next : (p : ℕ → Bool) (xs : List ℕ) (k : ℕ) → k < length xs → p (get_or xs k 0) ≡ true
    → list_all p (drop k xs) ≡ list_all p (drop (k + 1) xs)
list_all-next p xs k inside passes =
    at_drop_more (list_all p) xs k 0 inside ∙ ap (λ t. t && list_all p (drop (k + 1) xs)) passes

character_unless_replaced-capped : (syntax : TargetSyntax) (number : ℕ)
    → (if is_replaced syntax (min 0x11_0000 number) then None else Some (character_of (min 0x11_0000 number)))
    ≡ character_unless_replaced syntax (Some number)
character_unless_replaced-capped Markdown number = grind (arith, nat_tests)
character_unless_replaced-capped Attribute number = grind (arith, nat_tests)

-- the character of a limited number
pub character_unless_replaced-found : (syntax : TargetSyntax) (found : Option ℕ) (number : ℕ)
    → Some number ≡ option_map (min 0x11_0000) found
    → (if is_replaced syntax number then None else Some (character_of number)) ≡ character_unless_replaced syntax found
character_unless_replaced-found syntax None number is = absurd (cc)
character_unless_replaced-found syntax (Some whole) number is =
    let cap : number ≡ min 0x11_0000 whole = cc in
    ap (λ n. if is_replaced syntax n then None else Some (character_of n)) cap ∙ character_unless_replaced-capped syntax whole
