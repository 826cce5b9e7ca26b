use Rattle.std.proofs.Common.{take}
use Rattle.relative_path.specs.RelativePath.{path_text}
use Rattle.relative_path.specs.Components.{text_left}
use Rattle.relative_path_bench.specs.Walking.{TakesInTurn}
use Rattle.relative_path_bench.proofs.walking.take_in_turn.Given as goal

abbrev pub invariant-loop-end : goal.invariant-loop-end
invariant-loop-end l = TakesInTurn (path_text l.fn.path) (take l.end-index l.ends) l.components.items (text_left l.walk)
