-- Each turn takes the last.
use Rattle.std.proofs.Common.{refl, ◌∙◌}
use Rattle.relmove_steps.specs.Actions.{from_name, rename_text}
use Rattle.relmove_steps.proofs.OrderLemmas.{reverse-next}
use Rattle.relmove_steps.proofs.order.arrivals_from_last.Goals as goal

pub loop-to-preserved : goal.loop-to-preserved
loop-to-preserved c =
    rw c.in_ok-push.ensures.items
    (reverse-next rename_text from_name c.loop-to.placed.items c.loop-to.arrivals.items c.pop.new.self.items _ _ refl
    c.in-Some.ensures.items ∙ c.loop-to.invariant)
