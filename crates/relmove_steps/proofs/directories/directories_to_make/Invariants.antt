-- The texts are those of the missing directories above the new paths so far; and then, each of them where it is taken.
use Rattle.std.proofs.Common.{◌≡◌, ◌<◌, ◌++◌, List, ℕ, String, Global, map, string_bytes}
use Rattle.std.specs.List.{AllZip}
use Rattle.relative_path.specs.Steps.{Step}
use Rattle.relative_path_moves.specs.Moves.{move_at, written_moves}
use Rattle.relative_path_places.specs.PlaceIndex.{Indexes, IsNoneAt}
use Rattle.relmove_steps.specs.Directories.{AreMissingTexts, HaveTextOf, IsDirectoryAbove, IsTextTakenTo}
use Rattle.relmove_steps.proofs.directories.directories_to_make.Given as goal

abbrev pub invariant-loop-a : goal.invariant-loop-a
invariant-loop-a l = record {
  sound : (paths : List (List Step)) → Indexes paths l.after → AreMissingTexts (written_moves l.moves) paths l.missing.keys;
  complete : (paths : List (List Step)) → Indexes paths l.after → (k : ℕ) → k < l.a-index → (directory : List Step)
      → IsDirectoryAbove (move_at (written_moves l.moves) k).new directory → IsNoneAt paths directory
      → HaveTextOf (map string_bytes l.missing.keys) directory;
}

abbrev pub invariant-loop-directory : goal.invariant-loop-directory
invariant-loop-directory l = record {
  taken : List (String Global);
  split : taken ++ l.directory-iterator ≡ l.initial.directory-iterator;
  are : AllZip (IsTextTakenTo l.news) (map string_bytes taken) (map string_bytes l.made.items);
}
