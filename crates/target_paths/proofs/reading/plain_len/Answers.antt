-- No byte before the first one that is read otherwise is read otherwise.
use Rattle.target_paths.specs.Source.{is_read_otherwise}
use Rattle.byte_classes.proofs.ForCallers.{list_all-take_before}
use Rattle.target_paths.proofs.reading.plain_len.Goals as goal

pub returns-clause-plain : goal.returns-clause-plain
returns-clause-plain c = list_all-take_before is_read_otherwise c.args.target.now c.len_before.result c.len_before.ensures.first
