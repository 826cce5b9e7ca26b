-- Each move so far is fine.
use Rattle.std.proofs.Common.{ℕ, ◌<◌}
use Rattle.relative_path_moves.specs.Moves.{Move, written_moves, move_at}
use Rattle.relmove_checks.specs.Trees.{IsFree}
use Rattle.relmove_checks.proofs.refused.check_news.Given as goal

abbrev pub invariant-loop-number : goal.invariant-loop-number
invariant-loop-number l = (j : ℕ) → j < l.number
    → (λ (move : Move). IsFree l.table l.entries move.new) (move_at (written_moves l.moves) j)
