-- No byte from the offset on is a line end.
use Rattle.std.proofs.Common.{◌≡◌, ◌<◌, ◌≤◌, ℕ, false, length, slice_index}
use Rattle.relmove_folder.specs.Position.{is_line_end}
use Rattle.relmove_folder.proofs.position.last_line.Given as goal

abbrev pub invariant-loop-start : goal.invariant-loop-start
invariant-loop-start l = record {
  within : l.start ≤ length l.text;
  none : (k : ℕ) → l.start ≤ k → k < length l.text → is_line_end (slice_index l.text k) ≡ false;
}

abbrev pub decreases-loop-start : goal.decreases-loop-start
decreases-loop-start l = l.start
