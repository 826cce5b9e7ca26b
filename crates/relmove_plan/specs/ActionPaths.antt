-- How the paths of a plan's actions are spelled, and that nothing leaves or is emptied but for moves and new texts.
use Rattle.std.specs.Prelude.{◌≡◌, ◌≢◌, ℕ, List, [], AllPairs}
use Rattle.std.specs.List.{All}
use Rattle.relative_path.specs.Normalizing.{AreNames}
use Rattle.relative_path.specs.Steps.{Step, components, spell}
use Rattle.relative_path_moves.specs.Moves.{Move}
use Rattle.relmove_steps.specs.Actions.{ActionTexts, BelowFirst, LosesNothing, OnlyTheseLeave}
use Rattle.relmove_steps.specs.Directories.{AreAllLeftBehind, IsLeftBehindByMove}

-- the path has names alone, at least one, and is these with one slash between each two: no `.`, no `..`, and no other slash
pub record SpellsNames (path : List ℕ) : Type 0 where
  pub some : path ≢ []
  pub names : AreNames (components path)
  pub spelled : path ≡ spell (components path)

-- each path of the actions does
pub record AreSpelled (actions : ActionTexts) (to_make to_empty : List (List ℕ)) : Type 0 where
  pub texts : All (λ new. SpellsNames new.0 × SpellsNames new.1) actions.texts
  pub staged : All (λ step. SpellsNames step.0 × SpellsNames step.1) actions.staged
  pub made : All SpellsNames to_make
  pub placed : All (λ step. SpellsNames step.0 × SpellsNames step.1) actions.placed
  pub removed : All SpellsNames actions.removed
  pub emptied : All SpellsNames to_empty

-- what leaves was at an old path, is a page that changes, or is a new text, and comes or is removed, once; and the directories
-- to be emptied are those that moves leave behind, each once, after what is below it
pub record DoNoMore (moves : List Move) (changed : List (List Step)) (actions : ActionTexts) (to_empty : List (List ℕ))
    : Type 0 where
  pub leave : OnlyTheseLeave moves changed actions
  pub kept : LosesNothing actions
  pub left : All (IsLeftBehindByMove moves moves) to_empty
  pub all : AreAllLeftBehind moves moves to_empty
  pub different : AllPairs (λ one other. one ≢ other) to_empty
  pub order : BelowFirst to_empty
