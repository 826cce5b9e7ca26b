-- Each turn draws one name.
use Rattle.std.proofs.Common.{◌≡◌, [], length, map, string_bytes}
use Rattle.relative_path_places.specs.declared.place_index.PlaceIndex.{PlaceIndex}
use Rattle.relmove_steps.specs.StagingNames.{AreDrawn}
use Rattle.relmove_steps.proofs.renames.staging_names.Given as goal

abbrev pub invariant-loop : goal.invariant-loop
invariant-loop l = record {
  count : length l.staging.items ≡ l.counter;
  free : (index : PlaceIndex) → AreDrawn index l.fn.names [] → AreDrawn index l.names (map string_bytes l.staging.items);
}
