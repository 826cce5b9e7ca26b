-- The index has the paths so far, and no two of them lead to the same place.
use Rattle.std.proofs.Common.{ℕ, ◌<◌, map, take}
use Rattle.relative_path.specs.Steps.{components}
use Rattle.relative_path_places.specs.PlaceIndex.{Indexes, IsFirstAt, path_at}
use Rattle.relmove_checks.proofs.after.index_after.Given as goal

abbrev pub invariant-loop-number : goal.invariant-loop-number
invariant-loop-number l = record {
  indexes : Indexes (take l.number (map components l.paths)) l.index;
  distinct : (f : ℕ) → f < l.number → IsFirstAt (map components l.paths) (path_at (map components l.paths) f) f;
}
