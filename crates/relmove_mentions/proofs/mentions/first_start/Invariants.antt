-- So many bytes that aren't path bytes may still come before `first`.
use Rattle.std.proofs.Common.{◌≡◌, ◌≤◌, ◌+◌, ◌-◌, drop, take}
use Rattle.relmove_mentions.specs.Spans.{others_in}
use Rattle.relmove_mentions.proofs.mentions.first_start.Given as goal

abbrev pub invariant-loop-first : goal.invariant-loop-first
invariant-loop-first l = record {
  after : l.start ≤ l.first;
  before : l.first ≤ l.end;
  others : others_in (take (l.end - l.first) (drop l.first l.text)) + l.left ≡ l.most;
}

abbrev pub decreases-loop-first : goal.decreases-loop-first
decreases-loop-first l = l.first
