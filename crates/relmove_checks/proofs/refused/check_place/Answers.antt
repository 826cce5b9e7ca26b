-- The normal path is below a barrier, or it isn't.
use Rattle.relmove_checks.proofs.refused.check_place.Goals as goal

pub returns-then-is_below_barrier-clause-refused : goal.returns-then-is_below_barrier-clause-refused
returns-then-is_below_barrier-clause-refused c = λ old tree known.
    let above = rw (c.if-is_below_barrier.true, c.view.ensures.text) at (c.is_below_barrier.ensures tree known) in
    (c.refusal_below.ensures, (c.normal-place.result.now, c.normal-place.ensures, above))

pub returns-clause-fine : goal.returns-clause-fine
returns-clause-fine c = λ tree known.
    let above = rw (c.if-is_below_barrier.false, c.view.ensures.text) at (c.is_below_barrier.ensures tree known) in
    (c.normal-place.result.now, c.normal-place.ensures, above)
