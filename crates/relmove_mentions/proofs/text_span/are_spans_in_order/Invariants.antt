-- The spans are in order exactly if the rest of them is.
use Rattle.std.proofs.Common.{◌↔◌, length}
use Rattle.relmove_mentions.specs.Spans.{FollowFrom}
use Rattle.relmove_mentions.proofs.text_span.are_spans_in_order.Given as goal

abbrev pub invariant-loop-span : goal.invariant-loop-span
invariant-loop-span l = FollowFrom 0 l.spans ↔ FollowFrom l.at l.rest

abbrev pub decreases-loop-span : goal.decreases-loop-span
decreases-loop-span l = length l.rest
