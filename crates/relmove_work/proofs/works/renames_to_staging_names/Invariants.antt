-- The renames so far give the things so far their staging names.
use Rattle.std.proofs.Common.{map}
use Rattle.std.specs.List.{AllZip}
use Rattle.relmove_work.specs.Works.{IsStagedAs, rename_text, thing_renames}
use Rattle.relmove_work.proofs.works.renames_to_staging_names.Given as goal

abbrev pub invariant-loop-rename : goal.invariant-loop-rename
invariant-loop-rename l = AllZip IsStagedAs (thing_renames (map rename_text l.yielded)) l.renames.items
