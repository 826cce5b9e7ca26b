-- The number is that of the paths so far.
use Rattle.std.proofs.Common.{◌≡◌, map, take}
use Rattle.relative_path_places.specs.Views.{view_text}
use Rattle.relmove_mentions.specs.Names.{most_others}
use Rattle.relmove_mentions.proofs.old_names.most_others_of.Given as goal

abbrev pub invariant-loop-old : goal.invariant-loop-old
invariant-loop-old l = l.most ≡ most_others (map view_text (take l.old-index l.olds))
