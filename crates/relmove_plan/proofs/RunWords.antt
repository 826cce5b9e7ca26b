-- Where things go while a run renames, one action after another: the words of the lemmas on the way to `run`.
use Rattle.std.specs.Prelude.{◌≡◌, ◌⊎◌, ◌<◌, ℕ, Bool, List, [], ◌∷◌, ◌++◌, ◌+◌, map, length, drop, take, slice_index_or, if◌then◌else◌}
use Rattle.std.specs.List.{AllZip, Any, starts_with}
use Rattle.std.specs.Str.{bytes_eq}
use Rattle.relative_path.specs.Steps.{Step}
use Rattle.relative_path_moves.specs.Moves.{Move}
use Rattle.relmove_checks.specs.declared.entry.Entry.{Entry}
use Rattle.relmove_steps.specs.Directories.{AreMissing}
use Rattle.relmove_steps.specs.Actions.{ActionTexts}
use Rattle.relmove_trees.specs.FileTrees.{names_of}
use Rattle.relmove_plan.specs.WholeTrees.{HasDirectoryAt, IsAt}

-- a rename as a pair of places: from where, and to where
abbrev pub rename_places : List ℕ × List ℕ → List (List ℕ) × List (List ℕ)
rename_places step = (names_of step.0, names_of step.1)

-- where a thing is after a rename that was at this place before
abbrev pub renamed : List (List ℕ) × List (List ℕ) → List (List ℕ) → List (List ℕ)
renamed step place =
    if starts_with bytes_eq place step.0 then step.1 ++ drop (length step.0) place else place

-- where it is after several renames, one after another
abbrev pub carried : List (List (List ℕ) × List (List ℕ)) → List (List ℕ) → List (List ℕ)
carried [] place = place
carried (step ∷ actions) place = carried actions (renamed step place)

-- the renames of a run, in order
abbrev pub renames_of : ActionTexts → List (List (List ℕ) × List (List ℕ))
renames_of actions = map rename_places (actions.staged ++ actions.placed)

-- an entry is at the place before the run, or the place is a new file's
abbrev pub IsThing : List Entry → ActionTexts → List (List ℕ) → Type 0
IsThing entries actions start =
    ((b : Bool) × Any (IsAt b start) entries) ⊎ Any (λ new. names_of new.1 ≡ start) actions.texts

-- after the first k renames, such a thing is at the place
pub record IsThereAfter (entries : List Entry) (actions : ActionTexts) (k : ℕ) (place : List (List ℕ)) : Type 0 where
  pub start : List (List ℕ)
  pub thing : IsThing entries actions start
  pub now : carried (take k (renames_of actions)) start ≡ place

-- each rename leads from where something is to where nothing is
abbrev pub NothingInTheWay : List Entry → ActionTexts → Type 0
NothingInTheWay entries actions = (k : ℕ) (step : List (List ℕ) × List (List ℕ)) → k < length (renames_of actions)
    → slice_index_or (renames_of actions) k step ≡ step
    → IsThereAfter entries actions k step.0 × (¬ IsThereAfter entries actions k step.1)

-- what is made at the one path comes by the renames of `placed` to the other
abbrev pub IsMadeFor : ActionTexts → List ℕ → List ℕ → Type 0
IsMadeFor actions directory made = carried (map rename_places actions.placed) (names_of made) ≡ names_of directory

-- the directories that are made come, one for one, to those that are missing above new paths
pub record DirectoriesArrive (moves : List Move) (after : List (List Step)) (actions : ActionTexts) (made : List (List ℕ))
    : Type 0 where
  pub missing : List (List ℕ)
  pub are_missing : AreMissing moves after missing
  pub arrive : AllZip (IsMadeFor actions) missing made

-- ---- whether something can come to a place while `placed` is done

-- after the first m renames of `placed`, a directory of the tree is at the place
abbrev pub HasOldDirectory : List Entry → ActionTexts → ℕ → List (List ℕ) → Type 0
HasOldDirectory entries actions m place = (start : List (List ℕ)) × HasDirectoryAt entries start
    × (carried (take (length actions.staged + m) (renames_of actions)) start ≡ place)

-- after the first m renames of `placed`, one of the directories that were made is at the place
abbrev pub HasMadeDirectory : ActionTexts → List (List ℕ) → ℕ → List (List ℕ) → Type 0
HasMadeDirectory actions made m place =
    Any (λ text. carried (take m (map rename_places actions.placed)) (names_of text) ≡ place) made

-- after the first m renames of `placed`, nothing is at the place, and it is in the root or in a directory that is there
pub record IsOpen (entries : List Entry) (actions : ActionTexts) (made : List (List ℕ)) (m : ℕ) (place : List (List ℕ))
    : Type 0 where
  pub directory : List (List ℕ)
  pub last : List ℕ
  pub split : place ≡ directory ++ last ∷ []
  pub held : (directory ≡ []) ⊎ (HasOldDirectory entries actions m directory ⊎ HasMadeDirectory actions made m directory)
  pub free : ¬ IsThereAfter entries actions (length actions.staged + m) place
  pub unmade : ¬ HasMadeDirectory actions made m place

-- each rename of `placed` leads to a place that is open then
abbrev pub CanCome : List Entry → ActionTexts → List (List ℕ) → Type 0
CanCome entries actions made = (m : ℕ) (step : List ℕ × List ℕ) → m < length actions.placed
    → slice_index_or actions.placed m step ≡ step → IsOpen entries actions made m (names_of step.1)

-- each directory is made at a place that is open then: after those before it, and before `placed`
abbrev pub CanBeMade : List Entry → ActionTexts → List (List ℕ) → Type 0
CanBeMade entries actions made = (i : ℕ) (text : List ℕ) → i < length made
    → slice_index_or made i text ≡ text → IsOpen entries actions (take i made) 0 (names_of text)

-- the renames of a run and its new directories can be made one after another
pub record CanRun (entries : List Entry) (actions : ActionTexts) (made : List (List ℕ)) : Type 0 where
  pub clear : NothingInTheWay entries actions
  pub make : CanBeMade entries actions made
  pub come : CanCome entries actions made
