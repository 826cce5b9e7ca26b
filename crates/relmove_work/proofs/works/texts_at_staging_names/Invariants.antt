-- The texts so far are at their staging names, and the others are as they were.
use Rattle.std.proofs.Common.{◌≡◌, take, drop}
use Rattle.std.specs.List.{AllZip}
use Rattle.relmove_work.specs.Works.{IsAtStagingName}
use Rattle.relmove_work.proofs.works.texts_at_staging_names.Given as goal

abbrev pub invariant-loop-text : goal.invariant-loop-text
invariant-loop-text l = record {
  there : AllZip IsAtStagingName (take l.text-index l.fn.texts.items) (take l.text-index l.text-items);
  left : drop l.text-index l.text-items ≡ drop l.text-index l.fn.texts.items;
}
