-- The work that a run has of a plan's actions: labels become staging names, and no new text is renamed before it is placed.
use Rattle.std.specs.Prelude.{◌≡◌, ◌⊎◌, ℕ, true, false, not, List, ◌∷◌, ◌++◌, Some, Contains, String, filter, map, string_bytes}
use Rattle.std.specs.List.{AllZip, slice_get}
use Rattle.std.specs.declared.alloc.Global.{Global}
use Rattle.relmove_actions.specs.declared.actions.Actions.{Actions}
use Rattle.relmove_actions.specs.declared.actions.NewText.{NewText}
use Rattle.relmove_actions.specs.declared.actions.Rename.{Rename}
use Rattle.relmove_journal.specs.declared.work.Leftover.TheVariants.{Text, Directory}
use Rattle.relmove_journal.specs.declared.work.TextFile.{TextFile}
use Rattle.relmove_journal.specs.declared.work.Work.{Work}
use Rattle.relmove_stages.specs.StageActions.{IsText}
use Rattle.relmove_work.specs.StagingPaths.{begins_as_label, is_text_file, staging_path, text_path}

-- a plan's actions as texts: new texts with their pages and files, and renames, each from one path to the other
pub record PlanTexts : Type 0 where
  pub texts : List (List ℕ × List ℕ × List ℕ)
  pub staged : List (List ℕ × List ℕ)
  pub made : List (List ℕ)
  pub placed : List (List ℕ × List ℕ)
  pub removed : List (List ℕ)
  pub emptied : List (List ℕ)

abbrev pub new_text : NewText → List ℕ × List ℕ × List ℕ
new_text new = (string_bytes new.page, string_bytes new.file, string_bytes new.text)

abbrev pub rename_text : Rename → List ℕ × List ℕ
rename_text rename = (string_bytes rename.from, string_bytes rename.to)

-- the actions as texts
abbrev pub plan_texts : Actions → PlanTexts
plan_texts actions = record {
  texts = map new_text actions.texts.items;
  staged = map rename_text actions.staged.items;
  made = map string_bytes actions.made.items;
  placed = map rename_text actions.placed.items;
  removed = map string_bytes actions.removed.items;
  emptied = map string_bytes actions.emptied.items;
}

-- the new text is written at its staging name, and has this digest
abbrev pub IsWrittenAt : List ℕ × List ℕ × List ℕ → TextFile → Type 0
IsWrittenAt new file = (string_bytes file.path ≡ text_path new.1) × IsText file.digest new.2

-- the new text has its staging name as its file, and is otherwise the same
pub record IsAtStagingName (new there : NewText) : Type 0 where
  pub page : string_bytes there.page ≡ string_bytes new.page
  pub file : string_bytes there.file ≡ text_path (string_bytes new.file)
  pub text : string_bytes there.text ≡ string_bytes new.text

-- the renames that don't rename a new text
abbrev pub thing_renames : List (List ℕ × List ℕ) → List (List ℕ × List ℕ)
thing_renames = filter (λ rename. not (is_text_file rename.0))

-- the thing leaves the same path, for its staging name
abbrev pub IsStagedAs : List ℕ × List ℕ → Rename → Type 0
IsStagedAs planned rename = (string_bytes rename.from ≡ planned.0) × (string_bytes rename.to ≡ staging_path planned.1)

-- the run has the path for a label: where it writes the new text that gets the label, or else the staging name
abbrev pub IsPathOfLabel : List (List ℕ × List ℕ) → List ℕ → List ℕ → Type 0
IsPathOfLabel staged label path =
    ((file : List ℕ) × Contains staged (file, label) × (is_text_file file ≡ true) × (path ≡ text_path file))
    ⊎ (((file : List ℕ) → Contains staged (file, label) → is_text_file file ≡ false) × (path ≡ staging_path label))

-- what has the label comes to the same path
abbrev pub IsPlacedAs : List (List ℕ × List ℕ) → List ℕ × List ℕ → Rename → Type 0
IsPlacedAs staged planned rename =
    IsPathOfLabel staged planned.0 (string_bytes rename.from) × (string_bytes rename.to ≡ planned.1)

-- what has the label is a page, and at its staging name the run expects the page's text
pub record IsOldTextOf (staged pages : List (List ℕ × List ℕ)) (label : List ℕ) (file : TextFile) : Type 0 where
  pub path : string_bytes file.path ≡ staging_path label
  pub page : List ℕ
  pub text : List ℕ
  pub own : List ℕ
  pub leaves : Contains staged (page, own)
  pub thing : is_text_file page ≡ false
  pub same : staging_path own ≡ staging_path label
  pub has : Contains pages (page, text)
  pub digest : IsText file.digest text

-- a thing leaves this path, and gets the staging name for this label
abbrev pub IsThingOf : List (List ℕ × List ℕ) → List ℕ → List ℕ → Type 0
IsThingOf staged label path =
    (own : List ℕ) × Contains staged (path, own) × (is_text_file path ≡ false) × (staging_path own ≡ staging_path label)

-- what is removed at one of these labels is no page with a text
abbrev pub LacksOldText : PlanTexts → List (List ℕ × List ℕ) → Type 0
LacksOldText plan pages =
    (label : List ℕ) × Contains plan.removed label
    × (((path : List ℕ) → IsThingOf plan.staged label path → ⊥)
    ⊎ ((path : List ℕ) × IsThingOf plan.staged label path × ((text : List ℕ) → Contains pages (path, text) → ⊥)))

-- the directory is made at a path that doesn't begin with a label; or at the label of a thing, or below it
abbrev pub IsMadeAt : List (List ℕ × List ℕ) → List ℕ → Type 0
IsMadeAt staged path = (begins_as_label path ≡ false)
    ⊎ ((i : ℕ) × (from label : List ℕ) × (slice_get staged i ≡ Some (from, label)) × (is_text_file from ≡ false)
    × ((path ≡ label) ⊎ ((below : List ℕ) × (path ≡ label ++ 47 ∷ below))))

-- the work is that of the plan's actions, where pages have these texts
pub record IsWorkOf (plan : PlanTexts) (pages : List (List ℕ × List ℕ)) (work : Work) : Type 0 where
  pub texts : AllZip IsWrittenAt plan.texts work.texts.items
  pub staged : AllZip IsStagedAs (thing_renames plan.staged) work.staged.items
  pub made : AllZip (λ label path. string_bytes path ≡ staging_path label) plan.made work.made.items
  pub placed : AllZip (IsPlacedAs plan.staged) plan.placed work.placed.items
  pub files : List TextFile
  pub directories : List (String Global)
  pub cleaned : work.cleaned.items ≡ map Text files ++ map Directory directories
  pub removed : AllZip (IsOldTextOf plan.staged pages) plan.removed files
  pub emptied : map string_bytes directories ≡ plan.emptied
