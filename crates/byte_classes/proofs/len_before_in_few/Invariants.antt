-- No byte so far is in the class.
use Rattle.std.proofs.Common.{◌≡◌, ◌<◌, ◌≤◌, ◌-◌, ℕ, false, length, slice_index}
use Rattle.byte_classes.proofs.len_before_in_few.Given as goal

abbrev pub invariant-loop-len : goal.invariant-loop-len
invariant-loop-len g l = record {
  before : (k : ℕ) → k < l.len → g.C.ByteClass.has l.class (slice_index l.text k) ≡ false;
  bound : l.len ≤ length l.text;
}

abbrev pub decreases-loop-len : goal.decreases-loop-len
decreases-loop-len g l = length l.text - l.len
