-- How a run stopped.
use Rattle.std.specs.Prelude.{◌≡◌, ◌⊎◌, ◌<◌, ℕ, None}
use Rattle.relmove_journal.specs.declared.work.Stage.TheVariants.{Writing, Staging, Erasing}
use Rattle.relmove_journal.specs.declared.work.Work.{Work}
use Rattle.relmove_stages.specs.Runs.{HasParts, IsOnTheWayFrom, Trees}
use Rattle.relmove_stages.specs.States.{State}
use Rattle.relmove_stages.specs.declared.beginning.Halt.{Halt}
use Rattle.relmove_stages.specs.declared.beginning.Halt.TheVariants.{Left, Refused, Stopped}

-- What is there after a run that stopped so. `Refused`: no journal, and the tree is the one before. `Left`: more than so many
-- calls failed; but for new texts and parts of them the tree is the one before, and the journal, if one is there, removes them.
-- `Stopped`: the run goes on; or more than so many calls failed when the new texts were there and nothing had moved.
abbrev pub IsAfterHalt : {F : Type 0} → Work → Trees → ℕ → State → Halt F → Type 0
IsAfterHalt work trees faults state (Refused fault) = (state.disk.journal ≡ None) × (state.disk.tree ≡ trees.before)
IsAfterHalt work trees faults state (Left fault) = (faults < state.faults) × HasParts work.texts.items trees.before state.disk.tree
    × (IsOnTheWayFrom work trees Writing state.disk ⊎ IsOnTheWayFrom work trees Erasing state.disk)
IsAfterHalt work trees faults state (Stopped fault) =
    IsOnTheWayFrom work trees Staging state.disk ⊎ ((faults < state.faults) × (state.disk.tree ≡ trees.written))
