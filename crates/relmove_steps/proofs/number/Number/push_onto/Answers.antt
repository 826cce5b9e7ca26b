-- The digits are those of the number.
use Rattle.std.proofs.Common.{All, OnOk, ◌≡◌, ◌<◌, ◌+◌, ◌++◌, map, string_bytes, sym, ap, subst, ◌∙◌}
use mathlib.Core.List.{reverse}
use Rattle.relmove_steps.specs.Numbers.{number_of, units_first}
use Rattle.relmove_steps.proofs.NumbersLemmas.{digits_small, numeral-digits}
use Rattle.relmove_steps.proofs.number.Number.push_onto.Goals as goal

pub push_digits-requires : goal.push_digits-requires
push_digits-requires c =
    subst (All (λ digit. digit < 10)) (sym (c.deref.ensures.value ∙ c.self.invariant))
    (digits_small (number_of c.self.inside.digits.items))

pub returns : goal.returns
returns c =
    let is = c.deref.ensures.value ∙ c.self.invariant ∙ ap units_first c.self.view_is in
    subst (λ digits. OnOk c.push_digits.result (string_bytes c.push_digits.new.text ≡ string_bytes c.args.text.now ++ digits))
    (ap (λ digits. map (λ digit. 48 + digit) (reverse digits)) is ∙ numeral-digits c.args.self.now c.requires)
    c.push_digits.ensures
