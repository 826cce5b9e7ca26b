-- Each turn adds the path of the next entry.
use Rattle.relative_path.specs.Steps.{components}
use Rattle.relmove_checks.proofs.TreesLemmas.{AreAfter-next, IsNormalTextOf-itself}
use Rattle.relmove_checks.proofs.after.paths_after.Goals as goal

pub loop-entry-preserved : goal.loop-entry-preserved
loop-entry-preserved c =
    let entry = c.entry-item.result in
    rw c.in_ok-push.ensures.items
    (AreAfter-next c.args.moves.now c.args.entries.now entry c.loop-entry.paths.items _ c.loop-entry.entry-index
    c.loop-entry-test.true c.entry-item.is c.loop-entry.invariant
    (c.in_ok-normal_after.ensures (components entry.path)
    (rw c.view.ensures.text (IsNormalTextOf-itself entry.path c.view.ensures.normal))))
