-- No byte from the start on up to this one may separate names.
use Rattle.std.proofs.Common.{◌≡◌, ◌≤◌, ◌<◌, ◌-◌, ℕ, false, get_or, length}
use Rattle.relmove_mentions.specs.Spans.{may_separate}
use Rattle.relmove_mentions.proofs.mentions.next_separator_end.Given as goal

abbrev pub invariant-loop-at : goal.invariant-loop-at
invariant-loop-at l = record {
  after : l.start ≤ l.at;
  within : l.at ≤ length l.text;
  none : (at : ℕ) → l.start ≤ at → at < l.at → may_separate (get_or l.text at 0) ≡ false;
}

abbrev pub decreases-loop-at : goal.decreases-loop-at
decreases-loop-at l = length l.text - l.at
