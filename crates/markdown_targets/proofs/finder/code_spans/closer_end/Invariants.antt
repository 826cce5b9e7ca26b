-- The offset stays within the text.
use Rattle.std.proofs.Common.{◌-◌, length}
use Rattle.markdown_targets.specs.Offsets.{Skips}
use Rattle.markdown_targets.proofs.finder.code_spans.closer_end.Given as goal

abbrev pub invariant-loop-run : goal.invariant-loop-run
invariant-loop-run l = Skips l.text l.from l.k

abbrev pub decreases-loop-run : goal.decreases-loop-run
decreases-loop-run l = length l.text - l.k
