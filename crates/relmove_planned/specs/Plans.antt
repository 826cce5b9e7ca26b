-- What is known of a plan and of the tree on which it is carried out.
use Rattle.std.specs.Prelude.{◌≡◌, ◌⊎◌, ℕ, Bool, List, [], ◌∷◌, ◌++◌, All, Contains, Some, None, codes, map}
use Rattle.std.specs.List.{list_any}
use Rattle.relative_path.specs.Normalizing.{IsNormalTextOf}
use Rattle.relative_path.specs.Steps.{components}
use Rattle.relative_path_links.specs.declared.site.MovedSitePage.{MovedSitePage}
use Rattle.relative_path_links.specs.declared.site.SitePage.{SitePage}
use Rattle.relative_path_moves.specs.Moves.{Move}
use Rattle.relmove_checks.specs.Moves.{HasNoReservedName, is_reserved_step}
use Rattle.relmove_checks.specs.Plan.{AreAllowed}
use Rattle.relmove_checks.specs.Trees.{entry_paths}
use Rattle.relmove_checks.specs.declared.entry.Entry.{Entry}
use Rattle.relmove_checks.specs.declared.name_rule.NameRule.{NameRule}
use Rattle.relmove_journal.specs.Shape.{IsOfRun}
use Rattle.relmove_journal.specs.declared.work.Work.{Work}
use Rattle.relmove_plan.specs.ActionPaths.{AreSpelled, DoNoMore}
use Rattle.relmove_plan.specs.KnownTrees.{AgreesWith, HasTexts, IsAfterMoves, RunsOn}
use Rattle.relmove_plan.specs.MadePaths.{IsMadePath}
use Rattle.relmove_plan.specs.WholeTrees.{IsWhole}
use Rattle.relmove_stages.specs.Runs.{IsOnTheWay}
use Rattle.relmove_stages.specs.States.{Disk}
use Rattle.relmove_steps.specs.Actions.{ActionTexts, ReplacesPages, WritesPages, staged_names}
use Rattle.relmove_steps.specs.NewFiles.{HaveOwnFiles}
use Rattle.relmove_steps.specs.Pages.{changed_paths, page_paths}
use Rattle.relmove_steps.specs.StagingNames.{AreFreeNames, numbered_name}
use Rattle.relmove_trees.specs.FileTrees.{Directory, Place, Tree}
use Rattle.relmove_work.specs.Leading.{trees_of}
use Rattle.relmove_work.specs.Works.{IsWorkOf, PlanTexts}

-- what `make_plan` says of a plan for whole entries: its clauses `accepted`, `names`, `files`, `texts`, `replaced`, `run`,
-- `spelled`, `made` and `only`
pub record IsPlanOf (entries : List Entry) (pages : List SitePage) (news : List MovedSitePage) (moves : List Move) (rule : NameRule)
    (actions : ActionTexts) (made emptied : List (List ℕ)) : Type 0 where
  pub whole : IsWhole entries (page_paths pages)
  pub accepted : AreAllowed entries moves rule
  pub names : AreFreeNames (entry_paths entries) (staged_names actions)
  pub files : HaveOwnFiles (entry_paths entries) (changed_paths pages news) actions
  pub texts : WritesPages (changed_paths pages news) actions
  pub replaced : ReplacesPages pages news actions
  pub run : RunsOn entries pages news moves actions made emptied
  pub spelled : AreSpelled actions made emptied
  pub made_paths : All (IsMadePath moves actions) made
  pub only : DoNoMore moves (changed_paths pages news) actions emptied

-- the path of the page has a name of a run's own
abbrev pub has_reserved_name : SitePage → Bool
has_reserved_name page = list_any is_reserved_step (components page.path.now)

-- no page has such a name
abbrev pub HaveNoReservedNames : List SitePage → Type 0
HaveNoReservedNames pages = All (λ page. HasNoReservedName (components page.path.now)) pages

-- the plan's actions as texts
abbrev pub texts_of_plan : ActionTexts → List (List ℕ) → List (List ℕ) → PlanTexts
texts_of_plan actions made emptied = record {
  texts = actions.texts;
  staged = actions.staged;
  made = made;
  placed = actions.placed;
  removed = actions.removed;
  emptied = emptied;
}

-- the run's directory is there, and nothing is in it
pub record HasRunDirectory (tree : Tree) : Type 0 where
  pub there : tree (codes ".relmove-run" ∷ []) ≡ Some Directory
  pub empty : (n : List ℕ) → tree (codes ".relmove-run" ∷ n ∷ []) ≡ None

-- each of these is the path of a page, in its normal form, and the page's text
abbrev pub ArePageTexts : List SitePage → List (List ℕ × List ℕ) → Type 0
ArePageTexts pages texts = (path text : List ℕ) → Contains texts (path, text)
    → (page : SitePage) × Contains pages page × IsNormalTextOf (components page.path.now) path × (page.text.now ≡ text)

-- each page has a text, under its path in its normal form
abbrev pub HaveTexts : List SitePage → List (List ℕ × List ℕ) → Type 0
HaveTexts pages texts = (page : SitePage) → Contains pages page
    → (path text : List ℕ) × IsNormalTextOf (components page.path.now) path × Contains texts (path, text)

-- a run of a plan: the entries, pages and moves for which it was planned, what it says, and the pages' texts that the run expects
pub record PlannedRun : Type 0 where
  pub entries : List Entry
  pub pages : List SitePage
  pub news : List MovedSitePage
  pub moves : List Move
  pub rule : NameRule
  pub actions : ActionTexts
  pub made : List (List ℕ)
  pub emptied : List (List ℕ)
  pub page_texts : List (List ℕ × List ℕ)

-- the run for these entries, pages and moves, which makes these pages of the ones before
abbrev pub run_for : List Entry → List SitePage → List MovedSitePage → List Move → NameRule → ActionTexts → List (List ℕ)
    → List (List ℕ) → List (List ℕ × List ℕ) → PlannedRun
run_for entries pages news moves rule actions made emptied page_texts = record {
  entries = entries;
  pages = pages;
  news = news;
  moves = moves;
  rule = rule;
  actions = actions;
  made = made;
  emptied = emptied;
  page_texts = page_texts;
}

-- the work is that of a plan of `make_plan`; and no page has a name of a run's own
pub record IsWorkOfPlan (run : PlannedRun) (work : Work) : Type 0 where
  pub of : IsPlanOf run.entries run.pages run.news run.moves run.rule run.actions run.made run.emptied
  pub plain : HaveNoReservedNames run.pages
  pub page_texts : ArePageTexts run.pages run.page_texts
  pub is_work : IsWorkOf (texts_of_plan run.actions run.made run.emptied) run.page_texts work

-- the work is that of a plan, and can be a run's; and these are the plan's new texts, in order
pub record IsPlannedWork (run : PlannedRun) (work : Work) (texts : List (List ℕ)) : Type 0 where
  pub of_plan : IsWorkOfPlan run work
  pub of_run : IsOfRun work
  pub texts_are : texts ≡ map (λ new. new.2) run.actions.texts

-- a run for these entries, pages and moves has this work and these new texts, and makes these pages of the ones before
pub record HasRun (entries : List Entry) (pages : List SitePage) (news : List MovedSitePage) (moves : List Move) (rule : NameRule)
    (work : Work) (texts : List (List ℕ)) : Type 0 where
  pub actions : ActionTexts
  pub made : List (List ℕ)
  pub emptied : List (List ℕ)
  pub page_texts : List (List ℕ × List ℕ)
  pub planned : IsPlannedWork (run_for entries pages news moves rule actions made emptied page_texts) work texts

-- the work of a plan for these entries, pages and moves can't be a run's
pub record HasNoRun (entries : List Entry) (pages : List SitePage) (moves : List Move) (rule : NameRule) : Type 0 where
  pub news : List MovedSitePage
  pub actions : ActionTexts
  pub made : List (List ℕ)
  pub emptied : List (List ℕ)
  pub page_texts : List (List ℕ × List ℕ)
  pub work : Work
  pub of_plan : IsWorkOfPlan (run_for entries pages news moves rule actions made emptied page_texts) work
  pub no_run : ¬ IsOfRun work

-- The tree agrees with the entries and pages for which the run was planned, and has the run's directory, with nothing in it. The
-- tree `now` is the same with the new texts of the pages.
pub record IsTreeOf (run : PlannedRun) (tree now : Tree) : Type 0 where
  pub agrees : AgreesWith run.entries run.pages run.moves run.actions tree
  pub texts : HasTexts run.pages run.news tree now
  pub directory : HasRunDirectory tree

-- the run has this work and these new texts, and starts at the tree
pub record StartsAt (run : PlannedRun) (work : Work) (texts : List (List ℕ)) (tree now : Tree) : Type 0 where
  pub planned : IsPlannedWork run work texts
  pub is_tree : IsTreeOf run tree now

-- a run of a plan has this work and these new texts, and starts at the tree
abbrev pub HasPlannedRun : Work → List (List ℕ) → Tree → Type 0
HasPlannedRun work texts tree = (run : PlannedRun) × (now : Tree) × StartsAt run work texts tree now

-- of each such run the tree is the one after the moves
abbrev pub IsAfterEach : Work → List (List ℕ) → Tree → Tree → Type 0
IsAfterEach work texts tree end = (run : PlannedRun) (now : Tree) → StartsAt run work texts tree now → IsAfterMoves run.moves now end

-- nothing is to be done
abbrev pub no_actions : ActionTexts
no_actions = record { texts = []; staged = []; placed = []; removed = [] }

-- What is known of the tree before the moves are planned: it agrees with the entries and pages, it has the run's directory, with
-- nothing in it, and nothing has a name that may become a staging name or that of a new text's file.
pub record IsKnownTree (entries : List Entry) (pages : List SitePage) (moves : List Move) (tree : Tree) : Type 0 where
  pub agrees : AgreesWith entries pages moves no_actions tree
  pub directory : HasRunDirectory tree
  pub unused : (top : Place) (number : ℕ) → tree (top ++ numbered_name number ∷ []) ≡ None

-- the tree is the one after the moves, with the new texts
pub record IsMovedTree (pages : List SitePage) (news : List MovedSitePage) (moves : List Move) (tree end : Tree) : Type 0 where
  pub now : Tree
  pub texts : HasTexts pages news tree now
  pub after : IsAfterMoves moves now end

-- the disk is as it was, or on the way of a run for these entries, pages and moves
abbrev pub IsOnTheirWay : List Entry → List SitePage → List Move → NameRule → Disk → Disk → Type 0
IsOnTheirWay entries pages moves rule before disk = (disk ≡ before)
    ⊎ ((news : List MovedSitePage) × (work : Work) × (texts : List (List ℕ)) × HasRun entries pages news moves rule work texts
    × IsOnTheWay work (trees_of work texts before.tree) disk)
