-- The new files to which a run writes new texts, and what leaves its path once.
use Rattle.std.specs.Prelude.{◌≡◌, ◌≢◌, ◌⊎◌, ◌<◌, ◌≤◌, ℕ, List, [], ◌∷◌, ◌++◌, All, AllPairs, Contains, length}
use Rattle.relative_path.specs.Steps.{Step, name, components, spell}
use Rattle.relative_path.specs.Naming.{file_name_of}
use Rattle.relative_path.specs.Normalizing.{IsNormalTextOf}
use Rattle.relative_path_moves.specs.Moves.{Move, AreApart}
use Rattle.relative_path_places.specs.Places.{directory}
use Rattle.relative_path_places.specs.PlaceIndex.{Indexes, IsNoneAt, path_at}
use Rattle.relative_path_places.specs.declared.place_index.PlaceIndex.{PlaceIndex}
use Rattle.relmove_checks.specs.Moves.{EachMove}
use Rattle.relmove_checks.specs.Trees.{AreDistinct}
use Rattle.relmove_steps.specs.declared.staging.FreeNames.{FreeNames}
use Rattle.relmove_steps.specs.StagingNames.{numbered_name}
use Rattle.relmove_steps.specs.Actions.{ActionTexts, staged_names}

-- the text is the normal text of one of the paths
abbrev pub IsOneOf : List (List Step) → List ℕ → Type 0
IsOneOf paths text = (k : ℕ) × (k < length paths) × IsNormalTextOf (path_at paths k) text

-- the file is in the page's directory, under a numbered name, and its text spells its components
pub record IsNextTo (page file : List ℕ) : Type 0 where
  pub number : ℕ
  pub next : components file ≡ directory (components page) ++ name (numbered_name number) ∷ []
  pub spelled : file ≡ spell (components file)

-- each new text is of one of these pages and has a file of its own, next to the page: no entry is at the file, and no other
-- new file and no staging name has the file's name, and so its number
pub record HaveOwnFiles (entries pages : List (List Step)) (actions : ActionTexts) : Type 0 where
  pub of_pages : All (λ new. IsOneOf pages new.0) actions.texts
  pub next_to : All (λ new. IsNextTo new.0 new.1) actions.texts
  pub unused : All (λ new. IsNoneAt entries (components new.1)) actions.texts
  pub different : AllPairs (λ one other. file_name_of one.1 ≢ file_name_of other.1) actions.texts
  pub no_name : All (λ new. All (λ staging. file_name_of new.1 ≢ file_name_of staging) (staged_names actions)) actions.texts

-- nothing leaves the same path twice
abbrev pub LeaveOnce : ActionTexts → Type 0
LeaveOnce actions = AllPairs (λ one other. one.0 ≢ other.0) actions.staged

-- ---- while the actions are made

-- no new text is written yet, and nothing leaves yet
pub record DoNothingYet (actions : ActionTexts) : Type 0 where
  pub texts : actions.texts ≡ []
  pub staged : actions.staged ≡ []

-- the last component of the text is a name with a number up to this one
pub record EndsUpTo (last : ℕ) (text : List ℕ) : Type 0 where
  pub number : ℕ
  pub within : number ≤ last
  pub above : List Step
  pub ends : components text ≡ above ++ name (numbered_name number) ∷ []

-- the new files were drawn from these free names, which are over this index; so they are the pages' own
pub record AreFilesDrawn (index : PlaceIndex) (pages : List (List Step)) (free : FreeNames) (actions : ActionTexts) : Type 0 where
  pub numbered : All (λ new. EndsUpTo free.last new.1) actions.texts
  pub own : (entries : List (List Step)) → Indexes entries index → HaveOwnFiles entries pages actions

-- nothing leaves yet from where the components lead
abbrev pub StaysThere : List Step → ActionTexts → Type 0
StaysThere cs actions = All (λ step. ¬ IsNormalTextOf cs step.0) actions.staged

-- what leaves by the second actions leaves by the first ones too, or leaves this path
abbrev pub LeavesToo : List ℕ → ActionTexts → ActionTexts → Type 0
LeavesToo from actions more = All (λ step. Contains actions.staged step ⊎ (step.0 ≡ from)) more.staged

-- no two moves have the same old path, no two of the pages are at one place, and an entry is at each old path and page
pub record LeaveFromEntries (entries : List (List Step)) (moves : List Move) (pages : List (List Step)) : Type 0 where
  pub apart : AreApart moves
  pub distinct : AreDistinct pages
  pub olds : EachMove (λ move. ¬ IsNoneAt entries move.old) moves
  pub pages_there : (k : ℕ) → k < length pages → ¬ IsNoneAt entries (path_at pages k)
