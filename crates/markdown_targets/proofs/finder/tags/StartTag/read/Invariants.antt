-- The offset stays within the text, after the name.
use Rattle.std.proofs.Common.{◌-◌, length}
use Rattle.markdown_targets.specs.Offsets.{Skips}
use Rattle.markdown_targets.proofs.finder.tags.StartTag.read.Given as goal

abbrev pub invariant-loop-attribute : goal.invariant-loop-attribute
invariant-loop-attribute l = Skips l.text l.name_end l.k

abbrev pub decreases-loop-attribute : goal.decreases-loop-attribute
decreases-loop-attribute l = length l.text - l.k
