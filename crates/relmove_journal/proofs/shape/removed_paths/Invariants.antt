-- The paths so far, and those that are left, are all.
use Rattle.std.proofs.Common.{◌≡◌, ◌++◌, drop, map}
use Rattle.relmove_journal.specs.Shape.{removed_paths}
use Rattle.relmove_journal.proofs.shape.removed_paths.Given as goal

abbrev pub invariant-loop-leftover : goal.invariant-loop-leftover
invariant-loop-leftover l =
    map (λ path. path.now) l.paths.items ++ removed_paths (drop l.leftover-index l.leftovers) ≡ removed_paths l.leftovers
