use Rattle.std.proofs.Common.{◌≢◌, ℕ, ◌<◌, ◌≤◌, length, slice_index}
use Rattle.relative_path.specs.Steps.{slash}
use Rattle.relative_path.proofs.slashes.last_piece_start.Given as goal

abbrev pub invariant-loop-start : goal.invariant-loop-start
invariant-loop-start l = record {
  after : (k : ℕ) → l.start ≤ k → k < length l.bytes → slice_index l.bytes k ≢ slash;
  bound : l.start ≤ length l.bytes;
}

abbrev pub decreases-loop-start : goal.decreases-loop-start
decreases-loop-start l = l.start
