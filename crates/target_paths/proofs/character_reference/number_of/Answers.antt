use Rattle.std.proofs.Common.{◌≡◌, ◌<◌, ◌∙◌, ap, sym, arith, min, length, drop, get_or, ◌+◌, true}
use Rattle.std.proofs.lemmas.Bool.Decides.{nat_tests}
use Rattle.std.specs.Char.{digit_value, is_digit}
use Rattle.std.specs.Str.Parse.{digits_value_after}
use Rattle.target_paths.proofs.NumbersLemmas.{value-next, list_all-next}
use Rattle.target_paths.proofs.character_reference.number_of.Goals as goal

pub loop-byte-preserved : goal.loop-byte-preserved
loop-byte-preserved c =
    let digits = c.args.digits.now in
    let k = c.loop-byte.byte-index in
    let radix = c.args.radix in
    let inside : k < length digits = omega arith in
    let is : digit_value (get_or digits k 0) ≡ c.in_ok-digit.digit =
    ap digit_value (sym c.from.ensures) ∙ sym c.in_ok-digit.ensures.value.1 in
    let within : c.in_ok-digit.digit < radix = omega (arith, is, c.in_ok-digit.ensures.value.0, c.in_ok-digit.ensures.value.1) in
    let passes : is_digit (get_or digits k 0) radix ≡ true = grind (arith, nat_tests) in
    record {
      small = omega arith;
      digits = c.loop-byte.invariant.digits ∙ list_all-next (λ b. is_digit b radix) digits k inside passes;
      value = c.loop-byte.invariant.value
          ∙ value-next radix c.loop-byte.number c.in_ok-digit.digit 0x11_0000 digits k (omega arith) inside is
          ∙ ap (λ n. min 0x11_0000 (digits_value_after radix n (drop (k + 1) digits))) (sym c.min-number.ensures);
    }
