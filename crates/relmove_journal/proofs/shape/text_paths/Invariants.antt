-- The paths so far, and those that are left, are all.
use Rattle.std.proofs.Common.{◌≡◌, ◌++◌, drop, map}
use Rattle.relmove_journal.specs.Shape.{text_paths}
use Rattle.relmove_journal.proofs.shape.text_paths.Given as goal

abbrev pub invariant-loop-text : goal.invariant-loop-text
invariant-loop-text l = map (λ path. path.now) l.paths.items ++ text_paths (drop l.text-index l.texts) ≡ text_paths l.texts
