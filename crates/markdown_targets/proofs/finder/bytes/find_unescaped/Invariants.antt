-- The offset stays within the text.
use Rattle.std.proofs.Common.{◌-◌, length}
use Rattle.markdown_targets.specs.Offsets.{Skips}
use Rattle.markdown_targets.proofs.finder.bytes.find_unescaped.Given as goal

abbrev pub invariant-loop-k : goal.invariant-loop-k
invariant-loop-k g l = Skips l.text l.from l.k

abbrev pub decreases-loop-k : goal.decreases-loop-k
decreases-loop-k g l = length l.text - l.k
