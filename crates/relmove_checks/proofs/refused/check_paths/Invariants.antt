-- Each move so far is fine.
use Rattle.std.proofs.Common.{ℕ, ◌<◌}
use Rattle.relative_path_moves.specs.Moves.{written_moves, move_at}
use Rattle.relmove_checks.specs.Moves.{HasFinePaths}
use Rattle.relmove_checks.proofs.refused.check_paths.Given as goal

abbrev pub invariant-loop-number : goal.invariant-loop-number
invariant-loop-number l = (j : ℕ) → j < l.number → HasFinePaths l.rule (move_at (written_moves l.moves) j)
