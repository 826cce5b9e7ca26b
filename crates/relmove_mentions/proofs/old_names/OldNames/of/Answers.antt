-- Each turn inserts the names of the next path.
use Rattle.std.proofs.Common.{map, take, ◌∙◌}
use Rattle.relative_path_places.specs.Views.{view_text}
use Rattle.relmove_mentions.specs.OldNames.{all_names}
use Rattle.relmove_mentions.proofs.OldNamesLemmas.{Has-end, Lists-next}
use Rattle.relmove_mentions.proofs.old_names.OldNames.of.Goals as goal

pub loop-old-preserved : goal.loop-old-preserved
loop-old-preserved c = record {
  lists =
      Lists-next c.args.olds.now c.loop-old.old-index c.old-item.result c.insert_names.new.self c.loop-old-test.true c.old-item.is
      (c.in_ok-insert_names.ensures.lists (all_names (map view_text (take c.loop-old.old-index c.args.olds.now)))
      c.loop-old.invariant.lists);
  most = c.in_ok-insert_names.ensures.most ∙ c.loop-old.invariant.most;
}

pub returns : goal.returns
returns c =
    Has-end c.args.olds.now c.loop-old.old-index c.loop-old.names c.loop-old-test.false c.loop-old.invariant.lists
    c.loop-old.invariant.most
