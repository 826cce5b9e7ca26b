-- No byte before the first percent sign is a percent sign.
use Rattle.target_paths.specs.Url.{is_percent}
use Rattle.byte_classes.proofs.ForCallers.{list_all-take_before}
use Rattle.target_paths.proofs.reading.unencoded_len.Goals as goal

pub returns-clause-plain : goal.returns-clause-plain
returns-clause-plain c = list_all-take_before is_percent c.args.text.now c.len_before.result c.len_before.ensures.first
