-- Why moves aren't done, and what is there then.
use Rattle.std.specs.Prelude.{◌≡◌, ◌<◌, ◌+◌, ℕ, List, Some, IsTrue}
use Rattle.std.specs.List.{position}
use Rattle.relative_path_links.specs.declared.site.MovedSitePage.{MovedSitePage}
use Rattle.relative_path_links.specs.declared.site.SitePage.{SitePage}
use Rattle.relative_path_moves.specs.Moves.{Move}
use Rattle.relmove_checks.specs.Plan.{IsRefused}
use Rattle.relmove_checks.specs.declared.entry.Entry.{Entry}
use Rattle.relmove_checks.specs.declared.name_rule.NameRule.{NameRule}
use Rattle.relmove_journal.specs.declared.work.Work.{Work}
use Rattle.relmove_plan.specs.WholeTrees.{IsWhole}
use Rattle.relmove_stages.specs.Halts.{IsAfterHalt}
use Rattle.relmove_stages.specs.States.{State}
use Rattle.relmove_steps.specs.Pages.{page_paths}
use Rattle.relmove_work.specs.Leading.{trees_of}
use Rattle.relmove_planned.specs.Plans.{HasNoRun, HasRun, has_reserved_name}
use Rattle.relmove_planned.specs.declared.moves.MovesFault.{MovesFault}
use Rattle.relmove_planned.specs.declared.moves.MovesFault.TheVariants.{Refused, NotTaken, Halted}
use Rattle.relmove_planned.specs.declared.refusal.WorkRefusal.{WorkRefusal}
use Rattle.relmove_planned.specs.declared.refusal.WorkRefusal.TheVariants.{ReservedName, Moves, LacksText, NotOfRun}

-- Why there is no work of a run. `ReservedName`: this is the first page that has a name of a run's own. `Moves`: so the moves are
-- refused. `LacksText`: entries aren't whole. `NotOfRun`: if entries are whole, the work of a plan can't be a run's.
abbrev pub IsNoWork : List Entry → List SitePage → List Move → NameRule → WorkRefusal → Type 0
IsNoWork entries pages moves rule (ReservedName k) = position has_reserved_name pages ≡ Some k
IsNoWork entries pages moves rule (Moves refusal) = IsRefused entries moves rule refusal
IsNoWork entries pages moves rule LacksText = ¬ IsWhole entries (page_paths pages)
IsNoWork entries pages moves rule NotOfRun = IsWhole entries (page_paths pages) → HasNoRun entries pages moves rule

-- a call failed
abbrev pub HasFailed : State → State → Type 0
HasFailed old new = IsTrue new.is_clean → old.faults < new.faults

-- why moves aren't done, or not all of them: there is no work of a run, or a call failed
abbrev pub IsCause : {F : Type 0} → List Entry → List SitePage → List Move → NameRule → State → State → MovesFault F → Type 0
IsCause entries pages moves rule old new (Refused refusal) = IsNoWork entries pages moves rule refusal
IsCause entries pages moves rule old new (NotTaken fault) = HasFailed old new
IsCause entries pages moves rule old new (Halted halt) = HasFailed old new

-- What is there after moves that aren't done, or not all of them. `Refused`, `NotTaken`: the disk is as it was. `Halted`: how a run
-- of the moves stopped says what is there.
abbrev pub IsAfterFault : {F : Type 0} → List Entry → List SitePage → List Move → NameRule → State → State → MovesFault F → Type 0
IsAfterFault entries pages moves rule old new (Refused refusal) = new.disk ≡ old.disk
IsAfterFault entries pages moves rule old new (NotTaken fault) = new.disk ≡ old.disk
IsAfterFault entries pages moves rule old new (Halted halt) = (news : List MovedSitePage) × (work : Work) × (texts : List (List ℕ))
    × HasRun entries pages news moves rule work texts
    × IsAfterHalt work (trees_of work texts old.disk.tree) (old.faults + 1) new halt
