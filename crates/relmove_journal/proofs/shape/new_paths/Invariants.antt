-- The paths so far, and those that are left, are all.
use Rattle.std.proofs.Common.{◌≡◌, ◌++◌, drop, map}
use Rattle.relmove_journal.specs.Shape.{new_paths}
use Rattle.relmove_journal.proofs.shape.new_paths.Given as goal

abbrev pub invariant-loop-rename : goal.invariant-loop-rename
invariant-loop-rename l = map (λ path. path.now) l.paths.items ++ new_paths (drop l.rename-index l.renames) ≡ new_paths l.renames
