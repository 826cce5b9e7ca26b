-- What was taken, and what is left, turned round.
use Rattle.std.proofs.Common.{◌≡◌, ◌++◌, map, length}
use mathlib.Core.List.{reverse}
use Rattle.relmove_steps.specs.Actions.{rename_text, to_name}
use Rattle.relmove_steps.proofs.order.leaving_from_last.Given as goal

abbrev pub invariant-loop-from : goal.invariant-loop-from
invariant-loop-from l =
    map rename_text l.staged.items ++ reverse (map to_name l.leaving.items) ≡ reverse
    (map to_name l.initial.leaving.items)

abbrev pub decreases-loop-from : goal.decreases-loop-from
decreases-loop-from l = length l.leaving.items
