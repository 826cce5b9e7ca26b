-- Moves of files, and where a reference in one of the files has to lead.
use Rattle.std.specs.Prelude.{◌≡◌, ◌≢◌, ◌⊎◌, ◌<◌, ◌≤◌, ℕ, List, [], ◌++◌, map, length, None, slice_index_or}
use Rattle.relative_path.specs.Steps.{Step}
use Rattle.relative_path.specs.Walk.{IsSame, place_of}
use Rattle.relative_path.specs.Naming.{last_name}
use Rattle.relative_path.specs.Relating.{IsReachable, IsShortestText}
use Rattle.relative_path.specs.RelativePath.{path_components, path_text}
use Rattle.relative_path.specs.declared.path.RelativePath.{RelativePath}
use Rattle.relative_path_places.specs.Places.{directory}
use Rattle.relative_path_moves.specs.declared.moves.Move as declared

-- a move of a file: the components of its old path and of its new one
pub record Move : Type 0 where
  pub old : List Step
  pub new : List Step

-- the moves that these pairs of an old and a new path are
abbrev pub moves_of : List (RelativePath × RelativePath) → List Move
moves_of = map (λ paths. record { old = path_components paths.0; new = path_components paths.1 })

-- the old path and the new one of a move, as they are written
abbrev pub paths_of : declared.Move → RelativePath × RelativePath
paths_of move = (move.old, move.new)

-- the moves that these are, by the components of their paths as they are written
abbrev pub written_moves : List declared.Move → List Move
written_moves = map (λ move. record { old = path_components move.old; new = path_components move.new })

-- the moves, turned: each from its new path to its old one
abbrev pub turned : List Move → List Move
turned = map (λ move. record { old = move.new; new = move.old })

-- move number k, counted from 0
abbrev pub move_at : List Move → ℕ → Move
move_at moves k = slice_index_or moves k (record { old = []; new = [] })

-- the text of the new path of move number k, counted from 0
abbrev pub new_text : List (RelativePath × RelativePath) → ℕ → List ℕ
new_text pairs k = slice_index_or (map (λ paths. path_text paths.1) pairs) k []

-- the old or the new path has no file name
abbrev pub LacksFileName : Move → Type 0
LacksFileName move = (last_name move.old ≡ None) ⊎ (last_name move.new ≡ None)

-- k is the least number of a move without a file name
pub record IsFirstNameless (moves : List Move) (k : ℕ) : Type 0 where
  pub within : k < length moves
  pub lacks : LacksFileName (move_at moves k)
  pub first : (j : ℕ) → j < k → ¬ LacksFileName (move_at moves j)

-- every move has a file name in its old and in its new path
abbrev pub AreNamed : List Move → Type 0
AreNamed moves = (k : ℕ) → k < length moves → ¬ LacksFileName (move_at moves k)

-- j is less than k, and the old paths of the two moves lead to the same place from every base
pub record HaveSameOld (moves : List Move) (j k : ℕ) : Type 0 where
  pub before : j < k
  pub within : k < length moves
  pub same : IsSame (move_at moves j).old (move_at moves k).old

-- the lexicographically least pair of moves with the same old path
pub record IsFirstPair (moves : List Move) (j k : ℕ) : Type 0 where
  pub pair : HaveSameOld moves j k
  pub first : (a b : ℕ) → HaveSameOld moves a b → (j < a) ⊎ (j ≡ a) × (k ≤ b)

-- no two moves have the same old path
abbrev pub AreApart : List Move → Type 0
AreApart moves = (j k : ℕ) → ¬ HaveSameOld moves j k

-- where a reference in the file of move number i led before the moves
abbrev pub meant : List Move → ℕ → List Step → List Step
meant moves i reference = directory (move_at moves i).old ++ reference

-- the file at this place is that of move number j
pub record MovesFrom (moves : List Move) (place : List Step) (j : ℕ) : Type 0 where
  pub within : j < length moves
  pub same : IsSame place (move_at moves j).old

-- the file at this place doesn't move
abbrev pub IsUnmoved : List Move → List Step → Type 0
IsUnmoved moves place = (j : ℕ) → ¬ MovesFrom moves place j

-- where the file at a place is after the moves: its new path if the file moved, and otherwise the place itself
abbrev pub IsPathAfter : List Move → List Step → List Step → Type 0
IsPathAfter moves place path =
    ((j : ℕ) × MovesFrom moves place j × (path ≡ (move_at moves j).new))
    ⊎ IsUnmoved moves place × (path ≡ place)

-- P holds of where the file at a place is after the moves
abbrev pub AtPathAfter : List Move → List Step → (List Step → Type 0) → Type 0
AtPathAfter moves place P = (path : List Step) × IsPathAfter moves place path × P path

-- P holds of where the file is after the moves to which the reference in the file of move number i leads
abbrev pub ForFile : List Move → ℕ → List Step → (List Step → Type 0) → Type 0
ForFile moves i reference = AtPathAfter moves (meant moves i reference)

-- P holds of the directory where a page is after the moves, and of where the file is to which its reference leads
abbrev pub ForFileOfLink : List Move → List Step → List Step → (List Step → List Step → Type 0) → Type 0
ForFileOfLink moves page reference P = AtPathAfter moves page (λ now. AtPathAfter moves (directory page ++ reference) (P (directory now)))

-- from the top it leads to no place
abbrev pub ClimbsAbove : List Step → Type 0
ClimbsAbove path = place_of path ≡ None

-- P holds of the path, which has a place from the top
abbrev pub BelowTop : (List Step → Type 0) → List Step → Type 0
BelowTop P path = (place_of path ≢ None) × P path

-- no list leads to the path from the new directory of the file of move i
abbrev pub IsBeyond : List Move → ℕ → List Step → Type 0
IsBeyond moves i path = ¬ IsReachable (directory (move_at moves i).new) path

-- the text spells the shortest list that leads to the path from the new directory of the file of move i
abbrev pub IsMovedText : List Move → ℕ → List ℕ → List Step → Type 0
IsMovedText moves i text path = IsShortestText (directory (move_at moves i).new) path text
