-- What was taken, and what is left, turned round.
use Rattle.std.proofs.Common.{◌≡◌, ◌++◌, map, length}
use mathlib.Core.List.{reverse}
use Rattle.relmove_steps.specs.Actions.{from_name, rename_text}
use Rattle.relmove_steps.proofs.order.arrivals_from_last.Given as goal

abbrev pub invariant-loop-to : goal.invariant-loop-to
invariant-loop-to l =
    map rename_text l.placed.items ++ reverse (map from_name l.arrivals.items) ≡ reverse
    (map from_name l.initial.arrivals.items)

abbrev pub decreases-loop-to : goal.decreases-loop-to
decreases-loop-to l = length l.arrivals.items
