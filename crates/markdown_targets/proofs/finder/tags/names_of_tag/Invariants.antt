-- The offset stays within the text.
use Rattle.std.proofs.Common.{◌-◌, length}
use Rattle.markdown_targets.specs.Offsets.{Skips}
use Rattle.markdown_targets.proofs.finder.tags.names_of_tag.Given as goal

abbrev pub invariant-loop-attribute : goal.invariant-loop-attribute
invariant-loop-attribute l = Skips l.text l.start l.k

abbrev pub decreases-loop-attribute : goal.decreases-loop-attribute
decreases-loop-attribute l = length l.text - l.k
