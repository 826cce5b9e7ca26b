-- The offset stays within the text.
use Rattle.std.proofs.Common.{◌-◌, length}
use Rattle.markdown_targets.specs.Offsets.{Skips}
use Rattle.markdown_targets.proofs.finder.definitions.add_names.Given as goal

abbrev pub invariant-loop-definition : goal.invariant-loop-definition
invariant-loop-definition l = Skips l.text l.start l.k

abbrev pub decreases-loop-definition : goal.decreases-loop-definition
decreases-loop-definition l = length l.text - l.k
