-- From the start on no candidate ends up to this end.
use Rattle.std.proofs.Common.{◌≡◌, ◌≤◌, ◌<◌, ◌-◌, drop, length, take}
use Rattle.relmove_mentions.specs.Endings.{IsCandidate, ending_of}
use Rattle.relmove_mentions.specs.declared.text_span.TextSpan.{TextSpan}
use Rattle.relmove_mentions.proofs.mentions.next_end.Given as goal

abbrev pub invariant-loop-end : goal.invariant-loop-end
invariant-loop-end l = record {
  order : l.start ≤ l.end;
  within : l.end ≤ length l.text;
  ending : l.ending ≡ ending_of (take (l.end - l.start) (drop l.start l.text));
  later : (span : TextSpan) → IsCandidate l.endings l.text span → l.start ≤ span.start → l.end < span.end;
}

abbrev pub decreases-loop-end : goal.decreases-loop-end
decreases-loop-end l = length l.text - l.end
