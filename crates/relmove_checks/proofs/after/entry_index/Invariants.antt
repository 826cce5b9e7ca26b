-- The index has the paths so far.
use Rattle.std.proofs.Common.{take}
use Rattle.relative_path_places.specs.PlaceIndex.{Indexes}
use Rattle.relmove_checks.specs.Trees.{entry_paths}
use Rattle.relmove_checks.proofs.after.entry_index.Given as goal

abbrev pub invariant-loop-number : goal.invariant-loop-number
invariant-loop-number l = Indexes (take l.number (entry_paths l.entries)) l.index
