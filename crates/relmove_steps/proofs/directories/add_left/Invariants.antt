-- If the texts before are of directories that moves left, those so far are too; none is lost, and those so far are there.
use Rattle.std.proofs.Common.{◌≡◌, ◌<◌, All, Contains, List, ℕ, length, map, string_bytes, take}
use Rattle.relative_path.specs.RelativePath.{path_components}
use Rattle.relative_path_moves.specs.Moves.{Move, move_at}
use Rattle.relative_path_places.specs.Views.{view_components}
use Rattle.relmove_steps.specs.Directories.{AreLeftBehindByMoves, HasLeftBehind}
use Rattle.relmove_steps.proofs.directories.add_left.Given as goal

abbrev pub invariant-loop-directory : goal.invariant-loop-directory
invariant-loop-directory l = record {
  left : (moves : List Move) (k : ℕ) → k < length moves → (move_at moves k).old ≡ path_components l.fn.path
      → AreLeftBehindByMoves l.table moves l.fn.left.keys → AreLeftBehindByMoves l.table moves l.left.keys;
  kept : (text : List ℕ) → Contains (map string_bytes l.fn.left.keys) text → Contains (map string_bytes l.left.keys) text;
  all : All (λ directory. HasLeftBehind l.table (map string_bytes l.left.keys) (view_components directory))
      (take l.directory-index l.directory-items);
}
