-- The offset stays within the text.
use Rattle.std.proofs.Common.{◌-◌, ◌≤◌, length}
use Rattle.markdown_targets.proofs.finder.definitions.is_definitions.Given as goal

abbrev pub invariant-loop-definition : goal.invariant-loop-definition
invariant-loop-definition l = l.k ≤ length l.text

abbrev pub decreases-loop-definition : goal.decreases-loop-definition
decreases-loop-definition l = length l.text - l.k
