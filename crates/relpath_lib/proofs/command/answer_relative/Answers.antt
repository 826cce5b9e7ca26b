-- The answer is the shortest path between the components of the two texts.
use Rattle.std.proofs.Common.{rules}
use Rattle.relative_path.specs.Steps.{components}
use Rattle.relative_path.specs.Relating.{IsWayText}
use Rattle.relpath_lib.specs.Command.{GivesPath}
use Rattle.relpath_lib.proofs.CommandLemmas.{Adds-two, OnOk-known}
use Rattle.relpath_lib.proofs.command.answer_relative.Goals as goal

pub returns : goal.returns
returns c =
    Adds-two (λ from to. GivesPath (IsWayText (components from) (components to))) c.add_path.result _ _ _ _ _ _ _ _
    c.new.ensures c.new-2.ensures (λ _. search rules) (OnOk-known _ c.add_path.result c.add_path.ensures)
