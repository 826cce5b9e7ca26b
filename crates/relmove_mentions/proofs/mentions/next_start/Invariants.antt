-- No path begins from the start on before the next offset.
use Rattle.std.proofs.Common.{◌≡◌, ◌≤◌, ◌<◌, ◌-◌, ℕ, false}
use Rattle.relmove_mentions.specs.Spans.{is_bounded_before}
use Rattle.relmove_mentions.proofs.mentions.next_start.Given as goal

abbrev pub invariant-loop-next : goal.invariant-loop-next
invariant-loop-next l = record {
  after : l.start ≤ l.next;
  before : l.next ≤ l.end;
  none : (at : ℕ) → l.start ≤ at → at < l.next → is_bounded_before l.text at ≡ false;
}

abbrev pub decreases-loop-next : goal.decreases-loop-next
decreases-loop-next l = l.end - l.next
