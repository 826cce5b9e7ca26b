use Rattle.std.proofs.Common.{length}
use Rattle.relative_path.specs.Components.{text_left, components_left}
use Rattle.relative_path.proofs.EditingLemmas.{LosesCurs}
use Rattle.relative_path.proofs.naming.last_component.Given as goal

abbrev pub invariant-loop-name : goal.invariant-loop-name
invariant-loop-name l = LosesCurs l.fn.text (text_left l.components)

abbrev pub decreases-loop-name : goal.decreases-loop-name
decreases-loop-name l = length (components_left l.components)
