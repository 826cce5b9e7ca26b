-- No old path leads to a front of the place that is longer than what is left.
use Rattle.std.proofs.Common.{length}
use Rattle.relative_path_places.specs.Views.{view_components}
use Rattle.relative_path_moves.specs.MoveTable.{olds_of}
use Rattle.relative_path_moves.proofs.TreeMovesLemmas.{IsAbove}
use Rattle.relative_path_moves.proofs.tree_moves.TreeMoves.nearest.Given as goal

abbrev pub invariant-loop-j : goal.invariant-loop-j
invariant-loop-j l = IsAbove (olds_of l.self) (view_components l.place) (view_components l.above)

abbrev pub decreases-loop-j : goal.decreases-loop-j
decreases-loop-j l = length (view_components l.above)
