-- The set has the names of the paths so far.
use Rattle.std.proofs.Common.{◌≡◌, map, take}
use Rattle.relative_path_places.specs.Views.{view_text}
use Rattle.relmove_mentions.specs.Names.{most_others}
use Rattle.relmove_mentions.specs.OldNames.{Lists, all_names}
use Rattle.relmove_mentions.proofs.old_names.OldNames.of.Given as goal

abbrev pub invariant-loop-old : goal.invariant-loop-old
invariant-loop-old l = record {
  lists : Lists (all_names (map view_text (take l.old-index l.olds))) l.names;
  most : l.names.most_others ≡ most_others (map view_text l.olds);
}
