-- Theorems on moves that a caller's proof may cite: if no two moves have the same old path, a place has one target, and
-- so has a file in a table of moves of directories. Paths that lead to the same place have targets that lead to the same.
use Rattle.std.proofs.Common.{◌≡◌, List}
use Rattle.relative_path.specs.Steps.{Step}
use Rattle.relative_path.specs.Walk.{IsSame}
use Rattle.relative_path_moves.specs.Moves.{Move, AreApart, IsPathAfter}
use Rattle.relative_path_moves.specs.TreeMoves.{IsTreePath, AtTreePath}
use Rattle.relative_path_moves.proofs.MovesLemmas as moves
use Rattle.relative_path_moves.proofs.TreeMovesLemmas as trees

-- a place has one target
pub IsPathAfter-only : (moves : List Move) (place one other : List Step) → AreApart moves → IsPathAfter moves place one
    → IsPathAfter moves place other → other ≡ one
IsPathAfter-only = moves.IsPathAfter-only

-- a file has one target
pub IsTreePath-only : (moves : List Move) (file one other : List Step) → AreApart moves → IsTreePath moves file one
    → IsTreePath moves file other → other ≡ one
IsTreePath-only = trees.IsTreePath-only

-- what holds of the target of a list, and of each list that leads to the same, holds of the target of such a list
pub AtTreePath-same : (moves : List Move) (f g : List Step) (P Q : List Step → Type 0) → IsSame f g
    → ((t u : List Step) → IsSame t u → P t → Q u) → AtTreePath moves f P → AtTreePath moves g Q
AtTreePath-same = trees.AtTreePath-same
