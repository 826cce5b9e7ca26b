-- What is known after the test of collisions, and refusals after all tests.
use Rattle.std.proofs.Common.{List, map}
use Rattle.relative_path.specs.Steps.{components}
use Rattle.relative_path_moves.specs.Moves.{Move}
use Rattle.relative_path_places.specs.PlaceIndex.{Indexes}
use Rattle.relative_path_places.specs.declared.place_index.PlaceIndex.{PlaceIndex}
use Rattle.relmove_checks.specs.declared.entry.Entry.{Entry}
use Rattle.relmove_checks.specs.declared.name_rule.NameRule.{NameRule}
use Rattle.relmove_checks.specs.Trees.{IndexesAfter}
use Rattle.relmove_checks.specs.Plan.{StayApart}

-- the index has the paths after the moves
pub IndexesAfter-apart : (entries : List Entry) (moves : List Move) (rule : NameRule) (index : PlaceIndex)
    (known : StayApart entries moves rule) → Indexes (map components known.after) index
    → IndexesAfter moves entries index
IndexesAfter-apart entries moves rule index known indexes = record {
  apart = known.come.leave.apart;
  after = known.after;
  are_after = known.are_after;
  distinct = known.distinct;
  indexes = indexes;
}
