-- Each move so far is fine.
use Rattle.std.proofs.Common.{ℕ, ◌<◌, List}
use Rattle.relative_path_moves.specs.Moves.{Move, written_moves, move_at}
use Rattle.relmove_checks.specs.Trees.{IndexesAfter, IsBelowNo, is_barrier}
use Rattle.relmove_checks.proofs.refused.check_above.Given as goal

abbrev pub invariant-loop-number : goal.invariant-loop-number
invariant-loop-number l = (tree : List Move) → IndexesAfter tree l.entries l.after → (j : ℕ) → j < l.number
    → (λ (move : Move). IsBelowNo (is_barrier l.barrier) tree l.entries move.new) (move_at (written_moves l.moves) j)
