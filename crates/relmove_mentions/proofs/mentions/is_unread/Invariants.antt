-- The span is apart from the spans that are left exactly if it is apart from all that were left at first.
use Rattle.std.proofs.Common.{◌≡◌, ◌-◌, drop, length}
use Rattle.std.specs.List.{list_all}
use Rattle.relmove_mentions.specs.Spans.{is_apart}
use Rattle.relmove_mentions.proofs.mentions.is_unread.Given as goal

abbrev pub invariant-loop-count : goal.invariant-loop-count
invariant-loop-count l =
    list_all (is_apart l.span) (drop l.count l.spans) ≡ list_all (is_apart l.span) (drop l.passed l.spans)

abbrev pub decreases-loop-count : goal.decreases-loop-count
decreases-loop-count l = length l.spans - l.count
