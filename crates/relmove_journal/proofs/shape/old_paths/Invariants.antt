-- The paths so far, and those that are left, are all.
use Rattle.std.proofs.Common.{◌≡◌, ◌++◌, drop, map}
use Rattle.relmove_journal.specs.Shape.{old_paths}
use Rattle.relmove_journal.proofs.shape.old_paths.Given as goal

abbrev pub invariant-loop-rename : goal.invariant-loop-rename
invariant-loop-rename l = map (λ path. path.now) l.paths.items ++ old_paths (drop l.rename-index l.renames) ≡ old_paths l.renames
