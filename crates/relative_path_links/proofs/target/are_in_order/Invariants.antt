-- The targets are in order exactly if the rest of them is.
use Rattle.std.proofs.Common.{◌↔◌, length}
use Rattle.relative_path_links.specs.Targets.{HasTargets}
use Rattle.relative_path_links.proofs.target.are_in_order.Given as goal

abbrev pub invariant-loop-target : goal.invariant-loop-target
invariant-loop-target l = HasTargets l.page 0 l.targets ↔ HasTargets l.page l.at l.rest

abbrev pub decreases-loop-target : goal.decreases-loop-target
decreases-loop-target l = length l.rest
