-- Moves of files and directories: a move of a directory is a move of all below it.
use Rattle.std.specs.Prelude.{◌≡◌, ◌⊎◌, ◌<◌, ◌≤◌, ℕ, List, ◌++◌, map, length, take, Option, Some, None}
use Rattle.relative_path.specs.Steps.{Step, name}
use Rattle.relative_path.specs.Walk.{place_of}
use Rattle.relative_path_places.specs.PlaceIndex.{IsFirstAt, IsNoneAt}
use Rattle.relative_path.specs.declared.path.RelativePath.{RelativePath}
use Rattle.relative_path_moves.specs.declared.moves.Move as declared
use Rattle.relative_path_moves.specs.declared.tree_moves.Side.{Side}
use Rattle.relative_path_moves.specs.declared.tree_moves.Side.TheVariants.{Old, New}
use Rattle.relative_path_moves.specs.Moves.{Move, move_at, turned}

-- the old path of move number j leads to the place or to a directory above it, and these names lead on to the place
pub record TakesAlong (moves : List Move) (place : List (List ℕ)) (j : ℕ) (below : List (List ℕ)) : Type 0 where
  pub within : j < length moves
  pub top : List (List ℕ)
  pub old : place_of (move_at moves j).old ≡ Some top
  pub down : place ≡ top ++ below

-- of the moves that take the place along, this one has the longest old path: the fewest names lead on
pub record IsNearest (moves : List Move) (place : List (List ℕ)) (j : ℕ) (below : List (List ℕ)) : Type 0 where
  pub takes : TakesAlong moves place j below
  pub nearest : (k : ℕ) (others : List (List ℕ)) → TakesAlong moves place k others → length below ≤ length others

-- a file with a place is at the new path of the nearest move, followed by the names below its old path
pub record IsTakenTo (moves : List Move) (file path : List Step) : Type 0 where
  pub place : List (List ℕ)
  pub leads : place_of file ≡ Some place
  pub move : ℕ
  pub below : List (List ℕ)
  pub nearest : IsNearest moves place move below
  pub new : path ≡ (move_at moves move).new ++ map name below

-- no move takes the file along, or it has no place from the top
abbrev pub IsLeftInPlace : List Move → List Step → Type 0
IsLeftInPlace moves file = (place : List (List ℕ)) (j : ℕ) (below : List (List ℕ)) → place_of file ≡ Some place
    → ¬ TakesAlong moves place j below

-- where a file is after the moves: where the nearest move takes it, and otherwise where it was
abbrev pub IsTreePath : List Move → List Step → List Step → Type 0
IsTreePath moves file path = IsTakenTo moves file path ⊎ IsLeftInPlace moves file × (path ≡ file)

-- P holds of where a file is after the moves
abbrev pub AtTreePath : List Move → List Step → (List Step → Type 0) → Type 0
AtTreePath moves file P = (path : List Step) × IsTreePath moves file path × P path

-- P holds of where the file is after the moves to which a reference leads from a directory before them
abbrev pub AtTreeFile : List Move → List Step → List Step → (List Step → Type 0) → Type 0
AtTreeFile moves directory reference P = AtTreePath moves (directory ++ reference) P

-- the moves by these paths of theirs: as they are by their old paths, and turned by their new ones
abbrev pub by_side : Side → List Move → List Move
by_side Old moves = moves
by_side New moves = turned moves

-- the path of a move
abbrev pub path_on : Side → declared.Move → RelativePath
path_on Old move = move.old
path_on New move = move.new

-- of the first n components, the number is that of the old path that has the most of them; `None` if no old path has
abbrev pub NearestUpTo : List (List Step) → List Step → ℕ → Option ℕ → Type 0
NearestUpTo olds cs n None = (m : ℕ) → m ≤ n → IsNoneAt olds (take m cs)
NearestUpTo olds cs n (Some j) =
    (m : ℕ) × (m ≤ n) × IsFirstAt olds (take m cs) j × ((l : ℕ) → m < l → l ≤ n → IsNoneAt olds (take l cs))
