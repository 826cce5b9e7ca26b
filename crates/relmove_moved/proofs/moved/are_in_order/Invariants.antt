-- The targets of the edits are in order exactly if those of the rest are.
use Rattle.std.proofs.Common.{◌↔◌, length}
use Rattle.relative_path_links.specs.Edits.{targets_of}
use Rattle.relative_path_links.specs.Targets.{HasTargets}
use Rattle.relmove_moved.proofs.moved.are_in_order.Given as goal

abbrev pub invariant-loop-edit : goal.invariant-loop-edit
invariant-loop-edit l = HasTargets l.page 0 (targets_of l.edits) ↔ HasTargets l.page l.at (targets_of l.rest)

abbrev pub decreases-loop-edit : goal.decreases-loop-edit
decreases-loop-edit l = length l.rest
