-- The moves have file names, and no two of them have the same old path.
use Rattle.std.proofs.Common.{Err, ap}
use Rattle.relmove_steps.proofs.actions.table_of_apart.Goals as goal

pub unreachable-requires : goal.unreachable-requires
unreachable-requires c = c.in-Err-NoFileName.ensures.named _ (ap Err c.in-Err-NoFileName.field-0-is)

pub unreachable-requires-in-Err-SameOld : goal.unreachable-requires-in-Err-SameOld
unreachable-requires-in-Err-SameOld c =
    let j = c.in-Err-SameOld.field-0-0 in
    let k = c.in-Err-SameOld.field-0-1 in
    let first = (c.in-Err-SameOld.ensures.same_old j k).only (ap Err c.in-Err-SameOld.field-0-is) in
    c.requires.apart j k first.pair
