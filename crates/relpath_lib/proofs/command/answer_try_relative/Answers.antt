-- No path leads there if the result is `None`.
use Rattle.std.proofs.Common.{rules}
use Rattle.relative_path.specs.Steps.{components}
use Rattle.relpath_lib.specs.Command.{TellsWay}
use Rattle.relpath_lib.proofs.CommandLemmas.{Adds-two, OnOk-known}
use Rattle.relpath_lib.proofs.command.answer_try_relative.Goals as goal

pub returns-in-None : goal.returns-in-None
returns-in-None c =
    Adds-two (λ from to. TellsWay (components from) (components to)) c.add_words.result _ _ _ _ _ _ _ _
    c.new.ensures c.new-2.ensures (λ _. search rules) (OnOk-known _ c.add_words.result c.add_words.ensures)
