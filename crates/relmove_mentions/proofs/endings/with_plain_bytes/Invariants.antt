-- The hash is that after the bytes before the end, and no path ends before one of these.
use Rattle.std.proofs.Common.{◌≡◌, ◌≤◌, ◌<◌, ◌-◌, ℕ, drop, false, length, take}
use Rattle.std.specs.List.{fold}
use Rattle.relmove_mentions.specs.Endings.{next_ending}
use Rattle.relmove_mentions.specs.Spans.{is_bounded_after}
use Rattle.relmove_mentions.proofs.endings.with_plain_bytes.Given as goal

abbrev pub invariant-loop-end : goal.invariant-loop-end
invariant-loop-end l = record {
  after : l.start ≤ l.end;
  within : l.end ≤ length l.text;
  ending : record { hash = l.hash; encoded = l.fn.before.encoded; ended = l.fn.before.ended }
      ≡ fold next_ending l.fn.before (take (l.end - l.start) (drop l.start l.text));
  inside : (at : ℕ) → l.start ≤ at → at < l.end → is_bounded_after l.text at ≡ false;
}

abbrev pub decreases-loop-end : goal.decreases-loop-end
decreases-loop-end l = length l.text - l.end
