-- A line begins within the page.
use Rattle.std.proofs.Common.{◌-◌, ◌≤◌, length}
use Rattle.markdown_targets.proofs.finder.blocks.read_blocks.Given as goal

abbrev pub invariant-loop-start : goal.invariant-loop-start
invariant-loop-start l = l.start ≤ length l.page

abbrev pub decreases-loop-start : goal.decreases-loop-start
decreases-loop-start l = length l.page - l.start
