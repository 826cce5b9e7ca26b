-- The paths so far are those after the moves.
use Rattle.std.proofs.Common.{take}
use Rattle.relmove_checks.specs.Trees.{AreAfter}
use Rattle.relmove_checks.proofs.after.paths_after.Given as goal

abbrev pub invariant-loop-entry : goal.invariant-loop-entry
invariant-loop-entry l = AreAfter l.moves (take l.entry-index l.entries) l.paths.items
