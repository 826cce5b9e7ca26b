-- The digits are those of the next number.
use Rattle.std.proofs.Common.{ap, ◌+◌, ◌∙◌}
use Rattle.relmove_steps.specs.Numbers.{number_of}
use Rattle.relmove_steps.proofs.NumbersLemmas.{AreDigits-units_first, number_of-units_first}
use Rattle.relmove_steps.proofs.number.Number.next.Goals as goal

pub invariant_of-result : goal.invariant_of-result
invariant_of-result c =
    AreDigits-units_first c.in_ok-digits.digits.items (number_of c.deref.result.now + 1) c.in_ok-digits.ensures

pub returns : goal.returns
returns c =
    ap number_of c.in_ok-digits.ensures ∙ number_of-units_first (number_of c.deref.result.now + 1)
    ∙ ap (λ n. n + 1) (ap number_of c.deref.ensures.value ∙ c.self.view_is)
