-- Where the directories of a plan are made.
use Rattle.std.specs.Prelude.{◌≡◌, ◌⊎◌, ◌<◌, ℕ, List, ◌∷◌, length}
use Rattle.relative_path.specs.Steps.{components}
use Rattle.relative_path_moves.specs.Moves.{Move, move_at}
use Rattle.relmove_checks.specs.Moves.{HasNoReservedName}
use Rattle.relmove_steps.specs.Actions.{ActionTexts}
use Rattle.relmove_steps.specs.Directories.{LeavesTo}
use Rattle.relmove_trees.specs.FileTrees.{Place, names_of}

-- no name of the path is one of a run's own; or it begins with a staging name to which the old path of a move leaves
abbrev pub IsMadePath : List Move → ActionTexts → List ℕ → Type 0
IsMadePath moves actions path = HasNoReservedName (components path)
    ⊎ ((k : ℕ) × (k < length moves) × (staging : List ℕ) × (below : Place) × LeavesTo actions (move_at moves k).old staging
    × (names_of path ≡ staging ∷ below))
