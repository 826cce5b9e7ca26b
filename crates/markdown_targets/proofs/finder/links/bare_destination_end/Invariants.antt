-- The destination ends where it ends in what is left from the offset on, and the parentheses are within their limit.
use Rattle.std.proofs.Common.{◌≡◌, ◌-◌, false, length, drop, ◌≤◌}
use Rattle.markdown_targets.specs.Destinations.{end_of}
use Rattle.markdown_targets.specs.Offsets.{Skips}
use Rattle.markdown_targets.specs.declared.finder.links.TheConstants.{DEEPEST}
use Rattle.markdown_targets.proofs.finder.links.bare_destination_end.Given as goal

abbrev pub invariant-loop-k : goal.invariant-loop-k
invariant-loop-k l = record {
  within : Skips l.text l.start l.k;
  few : l.depth ≤ DEEPEST;
  left : end_of false 0 l.start (drop l.start l.text) ≡ end_of false l.depth l.k (drop l.k l.text);
}

abbrev pub decreases-loop-k : goal.decreases-loop-k
decreases-loop-k l = length l.text - l.k
