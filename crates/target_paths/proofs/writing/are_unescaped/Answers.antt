-- No byte is escaped exactly if the first one that is escaped is the end.
use Rattle.target_paths.specs.Writing.{is_escaped_later}
use Rattle.byte_classes.proofs.ForCallers.{list_all-length}
use Rattle.target_paths.proofs.writing.are_unescaped.Goals as goal

pub returns : goal.returns
returns c = list_all-length is_escaped_later c.args.text.now c.len_before.result c.len_before.ensures.first
