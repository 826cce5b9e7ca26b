-- No barrier is, after the moves, at what was seen of the path.
use Rattle.std.proofs.Common.{List, length}
use Rattle.relative_path_places.specs.Views.{view_components}
use Rattle.relative_path_moves.specs.Moves.{Move}
use Rattle.relmove_checks.specs.Trees.{IndexesAfter, is_barrier}
use Rattle.relmove_checks.proofs.AboveLemmas.{IsClearFrom}
use Rattle.relmove_checks.proofs.refused.is_below_barrier.Given as goal

abbrev pub invariant-loop-directory : goal.invariant-loop-directory
invariant-loop-directory l = (tree : List Move) → IndexesAfter tree l.entries l.after
    → IsClearFrom (is_barrier l.barrier) tree l.entries (view_components l.path) (view_components l.left)

abbrev pub decreases-loop-directory : goal.decreases-loop-directory
decreases-loop-directory l = length (view_components l.left)
