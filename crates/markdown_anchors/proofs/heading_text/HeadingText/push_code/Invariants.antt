-- The offset grows up to the length.
use Rattle.std.proofs.Common.{◌-◌, length}
use Rattle.markdown_anchors.proofs.heading_text.HeadingText.push_code.Given as goal

abbrev pub decreases-loop-k : goal.decreases-loop-k
decreases-loop-k l = length l.source - l.k
