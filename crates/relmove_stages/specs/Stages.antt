-- The stages of a run, and the actions of each.
use Rattle.std.specs.Prelude.{◌≡◌, ◌⊎◌, ℕ, zero, suc, List, [], ◌∷◌, Option, Some, None, map, option_and_then, reverse, string_bytes, String}
use Rattle.std.specs.declared.alloc.Global.{Global}
use Rattle.relmove_actions.specs.declared.actions.Rename.{Rename}
use Rattle.relmove_journal.specs.declared.work.Leftover.{Leftover}
use Rattle.relmove_journal.specs.declared.work.Leftover.TheVariants.{Text, Directory}
use Rattle.relmove_journal.specs.declared.work.Stage.{Stage}
use Rattle.relmove_journal.specs.declared.work.Stage.TheVariants.{Writing, Staging, Making, Placing, Cleaning, Unplacing, Unmaking, Unstaging, Erasing}
use Rattle.relmove_journal.specs.declared.work.TextFile.{TextFile}
use Rattle.relmove_journal.specs.declared.work.Work.{Work}
use Rattle.relmove_stages.specs.declared.action.Action.{Action}
use Rattle.relmove_stages.specs.declared.action.Action.TheVariants as actions
use Rattle.relmove_stages.specs.StageActions.{StageAction, Takes, Makes, Clears, Removes, RemovesPart, place_of}

-- ---- the order of the stages

-- the stage after this one, if it isn't the last on its way
abbrev pub next_stage : Stage → Option Stage
next_stage Writing = None
next_stage Staging = Some Making
next_stage Making = Some Placing
next_stage Placing = Some Cleaning
next_stage Cleaning = None
next_stage Unplacing = Some Unmaking
next_stage Unmaking = Some Unstaging
next_stage Unstaging = Some Erasing
next_stage Erasing = None

-- the stage that comes so many stages later
abbrev pub stage_after : ℕ → Stage → Option Stage
stage_after zero stage = Some stage
stage_after (suc k) stage = option_and_then next_stage (stage_after k stage)

-- a run at the first stage comes to the other one: that is the same stage, or a later one on the same way
abbrev pub ComesTo : Stage → Stage → Type 0
ComesTo first stage = (k : ℕ) × (stage_after k first ≡ Some stage)

-- how many stages come after this one
abbrev pub stages_left : Stage → ℕ
stages_left Writing = 0
stages_left Staging = 3
stages_left Making = 2
stages_left Placing = 1
stages_left Cleaning = 0
stages_left Unplacing = 3
stages_left Unmaking = 2
stages_left Unstaging = 1
stages_left Erasing = 0

-- the stage from which a run goes back: the one that takes back what its stage does, or the stage itself if the run is
-- going back, or has moved nothing; or none if it is too late
abbrev pub stage_back : Stage → Option Stage
stage_back Writing = Some Writing
stage_back Staging = Some Unstaging
stage_back Making = Some Unmaking
stage_back Placing = Some Unplacing
stage_back Cleaning = None
stage_back Unplacing = Some Unplacing
stage_back Unmaking = Some Unmaking
stage_back Unstaging = Some Unstaging
stage_back Erasing = Some Erasing

-- ---- what is done in each stage

abbrev pub takes : Rename → StageAction
takes rename = Takes (place_of rename.from) (place_of rename.to)

abbrev pub makes : String Global → StageAction
makes path = Makes (place_of path)

abbrev pub removes : TextFile → StageAction
removes text = Removes (place_of text.path) text.digest

abbrev pub removes_part : TextFile → StageAction
removes_part text = RemovesPart (place_of text.path) text.digest

abbrev pub cleans : Leftover → StageAction
cleans (Text text) = Removes (place_of text.path) text.digest
cleans (Directory path) = Clears (place_of path)

-- what takes back a rename or a new directory
abbrev pub back : StageAction → StageAction
back (Takes from to) = Takes to from
back (Makes place) = Clears place
back (Clears place) = Clears place
back (Removes place digest) = Removes place digest
back (RemovesPart place digest) = RemovesPart place digest

-- what takes back the actions, the last first
abbrev pub undone : List StageAction → List StageAction
undone actions = reverse (map back actions)

-- the actions of a stage, in order
abbrev pub stage_actions : Work → Stage → List StageAction
stage_actions work Writing = map removes_part work.texts.items
stage_actions work Staging = map takes work.staged.items
stage_actions work Making = map makes work.made.items
stage_actions work Placing = map takes work.placed.items
stage_actions work Cleaning = map cleans work.cleaned.items
stage_actions work Unplacing = undone (map takes work.placed.items)
stage_actions work Unmaking = undone (map makes work.made.items)
stage_actions work Unstaging = undone (map takes work.staged.items)
stage_actions work Erasing = map removes work.texts.items

-- the action is of a kind that the stage has, and the removal of a part has this number
abbrev pub IsOfStage : Stage → ℕ → Action → Type 0
IsOfStage stage number (actions.Carry rename) = (stage ≡ Staging) ⊎ (stage ≡ Placing)
IsOfStage stage number (actions.Unplace rename) = stage ≡ Unplacing
IsOfStage stage number (actions.Unstage rename) = stage ≡ Unstaging
IsOfStage stage number (actions.Make path) = stage ≡ Making
IsOfStage stage number (actions.Unmake path) = stage ≡ Unmaking
IsOfStage stage number (actions.RemoveText text) = (stage ≡ Cleaning) ⊎ (stage ≡ Erasing)
IsOfStage stage number (actions.RemovePart part text) = (stage ≡ Writing) × (part ≡ number)
IsOfStage stage number (actions.RemoveEmptied path) = stage ≡ Cleaning

-- ---- how paths are spelled

abbrev pub rename_texts : Rename → List (List ℕ)
rename_texts rename = string_bytes rename.from ∷ string_bytes rename.to ∷ []

abbrev pub directory_texts : String Global → List (List ℕ)
directory_texts path = string_bytes path ∷ []

abbrev pub file_texts : TextFile → List (List ℕ)
file_texts text = string_bytes text.path ∷ []

abbrev pub leftover_texts : Leftover → List (List ℕ)
leftover_texts (Text text) = file_texts text
leftover_texts (Directory path) = directory_texts path

-- the texts of an action's paths
abbrev pub path_texts : Action → List (List ℕ)
path_texts (actions.Carry rename) = rename_texts rename.now
path_texts (actions.Unplace rename) = rename_texts rename.now
path_texts (actions.Unstage rename) = rename_texts rename.now
path_texts (actions.Make path) = path.now ∷ []
path_texts (actions.Unmake path) = path.now ∷ []
path_texts (actions.RemoveText text) = file_texts text.now
path_texts (actions.RemovePart number text) = file_texts text.now
path_texts (actions.RemoveEmptied path) = path.now ∷ []

-- the texts of the paths that each action of a stage has, in order
abbrev pub stage_texts : Work → Stage → List (List (List ℕ))
stage_texts work Writing = map file_texts work.texts.items
stage_texts work Staging = map rename_texts work.staged.items
stage_texts work Making = map directory_texts work.made.items
stage_texts work Placing = map rename_texts work.placed.items
stage_texts work Cleaning = map leftover_texts work.cleaned.items
stage_texts work Unplacing = reverse (map rename_texts work.placed.items)
stage_texts work Unmaking = reverse (map directory_texts work.made.items)
stage_texts work Unstaging = reverse (map rename_texts work.staged.items)
stage_texts work Erasing = map file_texts work.texts.items
