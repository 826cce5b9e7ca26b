-- Each turn takes the last.
use Rattle.std.proofs.Common.{refl, ◌∙◌}
use Rattle.relmove_steps.specs.Actions.{rename_text, to_name}
use Rattle.relmove_steps.proofs.OrderLemmas.{reverse-next}
use Rattle.relmove_steps.proofs.order.leaving_from_last.Goals as goal

pub loop-from-preserved : goal.loop-from-preserved
loop-from-preserved c =
    rw c.in_ok-push.ensures.items
    (reverse-next rename_text to_name c.loop-from.staged.items c.loop-from.leaving.items c.pop.new.self.items _ _ refl
    c.in-Some.ensures.items ∙ c.loop-from.invariant)
