-- The renames so far place what has the labels so far.
use Rattle.std.proofs.Common.{map}
use Rattle.std.specs.List.{AllZip}
use Rattle.relmove_work.specs.Works.{IsPlacedAs, rename_text}
use Rattle.relmove_work.proofs.works.renames_from_staging_names.Given as goal

abbrev pub invariant-loop-from : goal.invariant-loop-from
invariant-loop-from l = AllZip (IsPlacedAs (map rename_text l.staged)) (map rename_text l.yielded) l.renames.items
