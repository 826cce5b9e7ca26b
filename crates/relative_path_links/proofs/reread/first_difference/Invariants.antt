-- What is left is found exactly if all is.
use Rattle.std.proofs.Common.{◌≡◌, ◌↔◌, length}
use Rattle.relative_path_links.specs.Targets.{HasTargets}
use Rattle.relative_path_links.specs.Edits.{targets_of, targets_after}
use Rattle.relative_path_links.proofs.reread.first_difference.Given as goal

abbrev pub invariant-loop-edit : goal.invariant-loop-edit
invariant-loop-edit l = record {
  rest : HasTargets l.page l.at (targets_of l.rest);
  same : (l.left ≡ targets_after l.page l.at l.now l.rest) ↔ (l.found ≡ targets_after l.page 0 0 l.edits);
}

abbrev pub decreases-loop-edit : goal.decreases-loop-edit
decreases-loop-edit l = length l.rest
