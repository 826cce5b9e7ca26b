-- What a table of moves holds, and the path that it gives to a place.
use Rattle.std.specs.Prelude.{◌≡◌, ◌≢◌, List, ◌++◌, map, Result, Ok, Err, Option, Some, None, ⊤}
use Rattle.relative_path.specs.Steps.{Step}
use Rattle.relative_path.specs.Walk.{IsSame, place_of}
use Rattle.relative_path.specs.Relating.{IsReachable, IsShortestText}
use Rattle.relative_path.specs.RelativePathBuf.{Buffer}
use Rattle.relative_path_moves.specs.declared.move_error.ReferenceError.{ReferenceError}
use Rattle.relative_path_moves.specs.declared.move_error.ReferenceError.TheVariants.{AboveRoot, NoPath, OutOfMemory}
use Rattle.relative_path_places.specs.declared.place_index.PlaceIndex.{PlaceIndex}
use Rattle.relative_path_places.specs.PlaceIndex.{Indexes}
use Rattle.relative_path_moves.specs.Moves.{Move, AreNamed, AreApart, IsPathAfter}

-- the old paths of the moves
abbrev pub olds_of : List Move → List (List Step)
olds_of = map (λ move. move.old)

-- the moves have file names, no two have the same old path, and the index has the old paths
pub record IsSound (moves : List Move) (by_old : PlaceIndex) : Type 0 where
  pub named : AreNamed moves
  pub apart : AreApart moves
  pub olds : Indexes (olds_of moves) by_old

-- the components lead where the file at a place is after the moves, which is one place
pub record LeadToFile (moves : List Move) (place cs : List Step) : Type 0 where
  pub path : List Step
  pub is : IsPathAfter moves place path
  pub only : (other : List Step) → IsPathAfter moves place other → other ≡ path
  pub same : IsSame path cs

-- P holds of the path from the directory to the components, or the error says why there is no path; a failed
-- allocation says nothing
abbrev pub IsWay : {T : Type 0} → List Step → List Step → (T → Type 0) → Result T ReferenceError → Type 0
IsWay directory cs P (Ok way) = (place_of cs ≢ None) × P way
IsWay directory cs P (Err AboveRoot) = place_of cs ≡ None
IsWay directory cs P (Err NoPath) = (place_of cs ≢ None) × ¬ IsReachable directory cs
IsWay directory cs P (Err OutOfMemory) = ⊤

-- the buffer spells the shortest list that leads to the components from a directory
abbrev pub IsShortestBuffer : List Step → List Step → Buffer → Type 0
IsShortestBuffer directory cs way = IsShortestText directory cs way.text

-- `None` if the reference leads from the directory to the components, and otherwise the shortest path to them
abbrev pub IsLink : List Step → List Step → List Step → Option Buffer → Type 0
IsLink directory reference cs None = IsSame (directory ++ reference) cs
IsLink directory reference cs (Some way) = (¬ IsSame (directory ++ reference) cs) × IsShortestBuffer directory cs way
