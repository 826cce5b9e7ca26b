-- So far each text is of a directory that a move left, and the texts of those of the moves so far are there.
use Rattle.std.proofs.Common.{◌<◌, List, ℕ, map, string_bytes}
use Rattle.relative_path.specs.Steps.{Step}
use Rattle.relative_path_moves.specs.Moves.{move_at, written_moves}
use Rattle.relmove_steps.specs.Directories.{AreLeftBehindByMoves, HasLeftBehind, IsDirectoryAbove}
use Rattle.relmove_steps.proofs.directories.directories_emptied.Given as goal

abbrev pub invariant-loop-a : goal.invariant-loop-a
invariant-loop-a l = record {
  left : AreLeftBehindByMoves l.table (written_moves l.moves) l.left.keys;
  all : (k : ℕ) → k < l.a-index → (directory : List Step) → IsDirectoryAbove (move_at (written_moves l.moves) k).old directory
      → HasLeftBehind l.table (map string_bytes l.left.keys) directory;
}
