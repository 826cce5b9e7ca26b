-- The tree after the moves.
use Rattle.std.specs.Prelude.{◌≡◌, ◌≢◌, ◌⊎◌, ◌<◌, ℕ, List, [], ◌∷◌, ◌++◌, map, length, Some, None, IsSome}
use Rattle.relative_path.specs.Steps.{components, name}
use Rattle.relative_path.specs.Walk.{place_of}
use Rattle.relative_path_moves.specs.Moves.{Move, move_at}
use Rattle.relative_path_moves.specs.TreeMoves.{AtTreePath}
use Rattle.relmove_trees.specs.FileTrees.{Directory, Place, Tree}

-- the move with the longest old path that is at the one place or above takes what is there to the other; what no move takes
-- stays
abbrev pub AreTakenTo : List Move → Place → Place → Type 0
AreTakenTo moves from to = AtTreePath moves (map name from) (λ target. place_of target ≡ Some to)

-- the place is above the new path of a move
abbrev pub IsAboveNew : List Move → Place → Type 0
IsAboveNew moves place = (k : ℕ) × (k < length moves) × (n : List ℕ) × (rest : Place)
    × (place_of (move_at moves k).new ≡ Some (place ++ n ∷ rest))

-- the place is above the old path of a move
abbrev pub IsAboveOld : List Move → Place → Type 0
IsAboveOld moves place = (k : ℕ) × (k < length moves) × (n : List ℕ) × (rest : Place)
    × (place_of (move_at moves k).old ≡ Some (place ++ n ∷ rest))

-- each thing of the tree `now` is where the moves take it, directories are above the new paths, and nothing else is there
pub record IsMoved (moves : List Move) (now end : Tree) : Type 0 where
  pub arrives : (from to : Place) → IsSome (now from) → AreTakenTo moves from to → end to ≡ now from
  pub made : (place : Place) → IsAboveNew moves place → end place ≡ Some Directory
  pub only : (to : Place) → IsSome (end to)
      → ((from : Place) × IsSome (now from) × AreTakenTo moves from to) ⊎ IsAboveNew moves to

-- at the place is, after the moves, a directory that was above an old path and isn't the root, also if it moved itself
pub record IsLeftBehind (moves : List Move) (place : Place) : Type 0 where
  pub from : Place
  pub some : from ≢ []
  pub above : IsAboveOld moves from
  pub taken : AreTakenTo moves from place

-- the place is left behind, and so is each place below it at which something is
pub record IsEmptied (left : Place → Type 0) (tree : Tree) (place : Place) : Type 0 where
  pub itself : left place
  pub below : (n : List ℕ) (rest : Place) → IsSome (tree (place ++ n ∷ rest)) → left (place ++ n ∷ rest)

-- nothing is where a place is emptied, and all else is as it was
pub record IsCleared (left : Place → Type 0) (tree end : Tree) : Type 0 where
  pub gone : (place : Place) → IsEmptied left tree place → end place ≡ None
  pub stays : (place : Place) → ¬ IsEmptied left tree place → end place ≡ tree place
