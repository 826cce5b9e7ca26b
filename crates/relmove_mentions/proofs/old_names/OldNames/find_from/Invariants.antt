-- From the bases so far the path leads to no old path.
use Rattle.std.proofs.Common.{ℕ, List, map, take}
use Rattle.std.specs.List.{Contains}
use Rattle.relative_path.specs.RelativePath.{path_components}
use Rattle.relmove_mentions.specs.Bases.{base_components}
use Rattle.relmove_mentions.specs.OldNames.{Has, WithOthers}
use Rattle.relmove_mentions.specs.Written.{LeadsFrom}
use Rattle.relmove_mentions.proofs.old_names.OldNames.find_from.Given as goal

abbrev pub invariant-loop-base : goal.invariant-loop-base
invariant-loop-base l = (olds : List (List ℕ)) → Has olds l.self → (old : List ℕ) → Contains olds old
    → ¬ WithOthers l.others (LeadsFrom olds (map base_components (take l.base-index l.bases)) (path_components l.path)) old
