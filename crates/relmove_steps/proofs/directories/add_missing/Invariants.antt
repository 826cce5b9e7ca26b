-- So far the texts are of missing directories, and each missing directory that was seen has one.
use Rattle.std.proofs.Common.{◌<◌, All, Contains, List, ℕ, length, map, string_bytes, take}
use Rattle.relative_path.specs.Normalizing.{IsNormalTextOf}
use Rattle.relative_path_places.specs.Views.{view_text}
use Rattle.relative_path.specs.Steps.{Step}
use Rattle.relative_path_moves.specs.Moves.{Move, move_at}
use Rattle.relative_path_places.specs.PlaceIndex.{Indexes}
use Rattle.relmove_steps.specs.Directories.{AreMissingTexts}
use Rattle.relmove_steps.proofs.DirectoriesLemmas.{IsServed}
use Rattle.relmove_steps.proofs.directories.add_missing.Given as goal

abbrev pub invariant-loop-directory : goal.invariant-loop-directory
invariant-loop-directory l = record {
  kept : (text : List ℕ) → Contains (map string_bytes l.fn.missing.keys) text
      → Contains (map string_bytes l.missing.keys) text;
  sound : (moves : List Move) (paths : List (List Step)) (k : ℕ) → Indexes paths l.after → k < length moves
      → IsNormalTextOf (move_at moves k).new (view_text l.path) → AreMissingTexts moves paths l.fn.missing.keys
      → AreMissingTexts moves paths l.missing.keys;
  complete : (paths : List (List Step)) → Indexes paths l.after
      → All (IsServed paths (map string_bytes l.missing.keys)) (take l.directory-index l.directory-items);
}
