-- The offset grows up to the length.
use Rattle.std.proofs.Common.{◌-◌, length}
use Rattle.markdown_anchors.proofs.sources.push_source.Given as goal

abbrev pub decreases-loop-k : goal.decreases-loop-k
decreases-loop-k l = length l.source - l.k
