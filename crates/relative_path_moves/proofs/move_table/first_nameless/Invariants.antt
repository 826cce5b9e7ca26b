-- Each move so far has its file names.
use Rattle.std.proofs.Common.{ℕ, ◌<◌}
use Rattle.relative_path_moves.specs.Moves.{moves_of, move_at, LacksFileName}
use Rattle.relative_path_moves.proofs.move_table.first_nameless.Given as goal

abbrev pub invariant-loop-k : goal.invariant-loop-k
invariant-loop-k l = (j : ℕ) → j < l.k → ¬ LacksFileName (move_at (moves_of l.moves) j)
