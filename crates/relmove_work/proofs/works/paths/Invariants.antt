-- The paths so far are those of the labels so far.
use Rattle.std.proofs.Common.{◌≡◌, map, string_bytes, take}
use Rattle.std.specs.List.{AllZip}
use Rattle.relmove_work.specs.StagingPaths.{staging_path as path_of_label}
use Rattle.relmove_work.proofs.works.paths.Given as goal

abbrev pub invariant-loop-label : goal.invariant-loop-label
invariant-loop-label l =
    AllZip (λ label path. string_bytes path ≡ path_of_label label) (map string_bytes (take l.label-index l.labels)) l.paths.items
