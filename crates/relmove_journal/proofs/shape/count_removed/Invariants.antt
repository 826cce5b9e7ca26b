-- The texts so far, and those that are left, are all. None is counted twice.
use Rattle.std.proofs.Common.{◌≡◌, ◌+◌, ◌≤◌, drop, length}
use Rattle.relmove_journal.specs.Shape.{removed_paths}
use Rattle.relmove_journal.proofs.shape.count_removed.Given as goal

abbrev pub invariant-loop-leftover : goal.invariant-loop-leftover
invariant-loop-leftover l =
    (l.count ≤ l.leftover-index)
    × (l.count + length (removed_paths (drop l.leftover-index l.leftovers)) ≡ length (removed_paths l.leftovers))
