-- The trees of a run, what a run requires of its actions, and what a crash leaves of it.
use Rattle.std.specs.Prelude.{◌≡◌, ◌⊎◌, ◌<◌, ◌≤◌, ℕ, List, [], ◌∷◌, Option, Some, None, length, slice_get, take}
use Rattle.relmove_actions.specs.declared.actions.Rename.{Rename}
use Rattle.relmove_journal.specs.declared.work.Leftover.{Leftover}
use Rattle.relmove_journal.specs.declared.work.Leftover.TheVariants.{Text, Directory}
use Rattle.relmove_journal.specs.declared.work.Stage.{Stage}
use Rattle.relmove_journal.specs.declared.work.Stage.TheVariants.{Writing, Staging, Making, Placing, Cleaning, Unplacing, Unmaking, Unstaging, Erasing}
use Rattle.relmove_journal.specs.declared.work.TextFile.{TextFile}
use Rattle.relmove_journal.specs.declared.work.Work.{Work}
use Rattle.relmove_stages.specs.StageActions.{HasPart, HasText, IsAfter, IsText, LeadsTo, StageAction, place_of}
use Rattle.relmove_stages.specs.Stages.{ComesTo, stage_actions, stage_back}
use Rattle.relmove_stages.specs.States.{Disk, Journal, Leaves, State, journal_of}
use Rattle.relmove_trees.specs.FileTrees.{CanTake, IsUnder, IsWholeTree, Place, Tree}
use Rattle.relmove_trees.specs.TreeActions as tree_actions
use Rattle.relmove_trees.specs.TreeActions.{LeadTo}

-- The trees between the stages: before the run, with the new texts, when everything has its staging name, when the directories
-- are made, and when everything is at its new path.
pub record Trees : Type 0 where
  pub before : Tree
  pub written : Tree
  pub staged : Tree
  pub made : Tree
  pub placed : Tree

-- of the trees of a run nothing is known: any will do
abbrev pub unknown_trees : Trees
unknown_trees = record {
  before = λ _. None;
  written = λ _. None;
  staged = λ _. None;
  made = λ _. None;
  placed = λ _. None;
}

-- a new text that has this place is there, or a part of it
abbrev pub HasNewPart : List TextFile → Place → Tree → Type 0
HasNewPart texts place tree = (i : ℕ) × (text : TextFile) × (slice_get texts i ≡ Some text) × (place ≡ place_of text.path)
    × HasPart place text.digest tree

-- but for new texts, and parts of them, the tree is the one before
abbrev pub HasParts : List TextFile → Tree → Tree → Type 0
HasParts texts before tree = (place : Place) → (tree place ≡ before place) ⊎ HasNewPart texts place tree

-- a stage begins at the tree
abbrev pub BeginsAt : Work → Trees → Stage → Tree → Type 0
BeginsAt work trees Writing tree = HasParts work.texts.items trees.before tree
BeginsAt work trees Staging tree = tree ≡ trees.written
BeginsAt work trees Making tree = tree ≡ trees.staged
BeginsAt work trees Placing tree = tree ≡ trees.made
BeginsAt work trees Cleaning tree = tree ≡ trees.placed
BeginsAt work trees Unplacing tree = tree ≡ trees.placed
BeginsAt work trees Unmaking tree = tree ≡ trees.made
BeginsAt work trees Unstaging tree = tree ≡ trees.staged
BeginsAt work trees Erasing tree = tree ≡ trees.written

-- ---- where a run is

-- the first actions are done, and no other
pub record IsOnStage (actions : List StageAction) (start tree : Tree) : Type 0 where
  pub done : ℕ
  pub within : done ≤ length actions
  pub is : IsAfter (take done actions) start tree

-- the first actions of the stage are done, and no other
abbrev pub IsAtStage : Work → Trees → Stage → Tree → Type 0
IsAtStage work trees stage tree =
    (start : Tree) × BeginsAt work trees stage start × IsOnStage (stage_actions work stage) start tree

-- at least so many of the first actions are done, and no other but those that follow
pub record IsReached (actions : List StageAction) (start : Tree) (least : ℕ) (tree : Tree) : Type 0 where
  pub done : ℕ
  pub from : least ≤ done
  pub within : done ≤ length actions
  pub is : IsAfter (take done actions) start tree

-- at least so many of the first actions of the stage are done, and no other but those that follow
abbrev pub IsStageReached : Work → Trees → Stage → ℕ → Tree → Type 0
IsStageReached work trees stage least tree =
    (start : Tree) × BeginsAt work trees stage start × IsReached (stage_actions work stage) start least tree

-- if the journal is of this work at the stage, as many of its first actions are done as before, or more
abbrev pub KeepsDone : Work → Trees → Stage → Tree → Disk → Type 0
KeepsDone work trees stage before disk = disk.journal ≡ Some (journal_of work stage)
    → (least : ℕ) → IsStageReached work trees stage least before → IsStageReached work trees stage least disk.tree

-- all actions of the stage are done
abbrev pub IsStageDone : Work → Trees → Stage → Tree → Type 0
IsStageDone work trees stage tree =
    (start : Tree) × BeginsAt work trees stage start × IsAfter (stage_actions work stage) start tree

-- all actions are done: everything is at its new path, and what is left over is removed
abbrev pub IsAllDone : Work → Trees → Tree → Type 0
IsAllDone work trees tree = IsAfter (stage_actions work Cleaning) trees.placed tree

-- a run at the stage ends so: all actions are done if it goes on, and the tree is the one before if it goes back
abbrev pub EndsFrom : Work → Trees → Stage → Tree → Type 0
EndsFrom work trees Writing tree = tree ≡ trees.before
EndsFrom work trees Staging tree = IsAllDone work trees tree
EndsFrom work trees Making tree = IsAllDone work trees tree
EndsFrom work trees Placing tree = IsAllDone work trees tree
EndsFrom work trees Cleaning tree = IsAllDone work trees tree
EndsFrom work trees Unplacing tree = tree ≡ trees.before
EndsFrom work trees Unmaking tree = tree ≡ trees.before
EndsFrom work trees Unstaging tree = tree ≡ trees.before
EndsFrom work trees Erasing tree = tree ≡ trees.before

-- the tree goes with what the journal says in a run that went on, or back, from the first stage
abbrev pub IsTreeFrom : Work → Trees → Stage → Option Journal → Tree → Type 0
IsTreeFrom work trees first None tree = EndsFrom work trees first tree
IsTreeFrom work trees first (Some journal) tree =
    (journal ≡ journal_of work journal.stage) × ComesTo first journal.stage × IsAtStage work trees journal.stage tree

-- what is left is on the way from the first stage: the journal is of this work, and says this stage, or a later one on the same
-- way, and the first actions of the journal's stage are done, and no other; or no journal is there, and the run ended
abbrev pub IsOnTheWayFrom : Work → Trees → Stage → Disk → Type 0
IsOnTheWayFrom work trees first disk = IsTreeFrom work trees first disk.journal disk.tree

-- what is left is the disk before, or on the way back from the stage
abbrev pub IsOnTheWayBack : Work → Trees → Stage → Disk → Disk → Type 0
IsOnTheWayBack work trees stage before disk =
    (disk ≡ before) ⊎ ((first : Stage) × (stage_back stage ≡ Some first) × IsOnTheWayFrom work trees first disk)

-- what is left of a run from its begin: new texts come, or everything goes to its new path, or the new texts go again
abbrev pub IsOnTheWay : Work → Trees → Disk → Type 0
IsOnTheWay work trees disk = IsOnTheWayFrom work trees Writing disk
    ⊎ (IsOnTheWayFrom work trees Staging disk ⊎ IsOnTheWayFrom work trees Erasing disk)

-- P holds of the disk after the calls between two states, and of what they leave
pub record Guards (P : Disk → Type 0) (old new : State) : Type 0 where
  pub way : P new.disk
  pub leaves : Leaves P old new

-- ---- what a run requires

-- neither place is at or below the other
abbrev pub AreApart : Place → Place → Type 0
AreApart one other = (¬ IsUnder one other) × (¬ IsUnder other one)

-- no old path of the renames is a new one, or above or below it
abbrev pub AreAllApart : List Rename → Type 0
AreAllApart renames = (i j : ℕ) (one other : Rename) → slice_get renames i ≡ Some one → slice_get renames j ≡ Some other
    → AreApart (place_of one.from) (place_of other.to)

-- where something is removed
abbrev pub left_place : Leftover → Place
left_place (Text text) = place_of text.path
left_place (Directory path) = place_of path

-- nothing is removed below a directory that came before
abbrev pub DeepestFirst : List Leftover → Type 0
DeepestFirst leftovers = (i j : ℕ) (one other : Leftover) → i < j → slice_get leftovers i ≡ Some one
    → slice_get leftovers j ≡ Some other → ¬ IsUnder (left_place other) (left_place one)

-- each old text is as it was read
abbrev pub HasOldTexts : Work → Tree → Type 0
HasOldTexts work tree = (i : ℕ) (text : TextFile) → slice_get work.cleaned.items i ≡ Some (Text text)
    → HasText (place_of text.path) text.digest tree

-- each new text is as it was written, if it is there
abbrev pub HasNewTexts : Work → Tree → Type 0
HasNewTexts work tree = (i : ℕ) (text : TextFile) → slice_get work.texts.items i ≡ Some text
    → (tree (place_of text.path) ≡ None) ⊎ HasText (place_of text.path) text.digest tree

-- a stage can begin: before things are placed, each new text is as it was written
abbrev pub CanBegin : Work → Stage → Tree → Type 0
CanBegin work Writing tree = Unit {0}
CanBegin work Staging tree = Unit {0}
CanBegin work Making tree = Unit {0}
CanBegin work Placing tree = HasNewTexts work tree
CanBegin work Cleaning tree = Unit {0}
CanBegin work Unplacing tree = Unit {0}
CanBegin work Unmaking tree = Unit {0}
CanBegin work Unstaging tree = Unit {0}
CanBegin work Erasing tree = Unit {0}

-- a stage can end: after everything got its staging name, each old text is as it was read
abbrev pub CanEnd : Work → Stage → Tree → Type 0
CanEnd work Writing tree = Unit {0}
CanEnd work Staging tree = HasOldTexts work tree
CanEnd work Making tree = Unit {0}
CanEnd work Placing tree = Unit {0}
CanEnd work Cleaning tree = Unit {0}
CanEnd work Unplacing tree = Unit {0}
CanEnd work Unmaking tree = Unit {0}
CanEnd work Unstaging tree = Unit {0}
CanEnd work Erasing tree = Unit {0}

-- What a run requires of its actions: each can be done in order, and the stages lead from tree to tree; no rename of a stage
-- leads to where one leaves from, or above or below it; and the texts have the digests that the journal says.
pub record Leads (work : Work) (trees : Trees) : Type 0 where
  pub whole : IsWholeTree trees.written
  pub texts : LeadsTo (stage_actions work Erasing) (λ tree. tree ≡ trees.before) trees.written
  pub stages : LeadsTo (stage_actions work Staging) (λ tree. tree ≡ trees.staged) trees.written
  pub makes : LeadsTo (stage_actions work Making) (λ tree. tree ≡ trees.made) trees.staged
  pub places : LeadsTo (stage_actions work Placing) (λ tree. tree ≡ trees.placed) trees.made
  pub cleans : LeadsTo (stage_actions work Cleaning) (λ tree. Unit {0}) trees.placed
  pub staged_apart : AreAllApart work.staged.items
  pub placed_apart : AreAllApart work.placed.items
  pub deepest : DeepestFirst work.cleaned.items
  pub old_texts : HasOldTexts work trees.staged
  pub new_texts : (tree : Tree) → IsAtStage work trees Placing tree → HasNewTexts work tree

-- ---- how a run begins

-- the new texts are written to their places, one after another
abbrev pub writes_of : List TextFile → List (List ℕ) → List tree_actions.Action
writes_of [] bytes = []
writes_of (text ∷ texts) [] = []
writes_of (text ∷ texts) (bytes ∷ rest) = tree_actions.Write (place_of text.path) bytes ∷ writes_of texts rest

-- the new text of this number can be written: it has the digest, nothing is at its place, and a directory is above it
abbrev pub CanWrite : List (List ℕ) → ℕ → TextFile → Tree → Type 0
CanWrite texts number text tree =
    CanTake tree (place_of text.path) × (bytes : List ℕ) × (slice_get texts number ≡ Some bytes) × IsText text.digest bytes

-- What a run requires of its new texts to begin: each has the digest that the journal says, and can be written when it comes;
-- and they lead from the tree before the run to the one with the new texts.
pub record CanInitiate (work : Work) (texts : List (List ℕ)) (trees : Trees) : Type 0 where
  pub digests : (i : ℕ) (text : TextFile) → slice_get work.texts.items i ≡ Some text
      → (bytes : List ℕ) × (slice_get texts i ≡ Some bytes) × IsText text.digest bytes
  pub writes : LeadTo (writes_of work.texts.items texts) (λ tree. tree ≡ trees.written) trees.before
