-- The moves have file names; and two are the first pair.
use Rattle.std.proofs.Common.{Err, ap}
use Rattle.relmove_checks.proofs.allowed.table_of.Goals as goal

pub unreachable-requires : goal.unreachable-requires
unreachable-requires c = c.in-Err-NoFileName.ensures.named _ (ap Err c.in-Err-NoFileName.field-0-is)

pub returns-in-Err-SameOld-clause-refused : goal.returns-in-Err-SameOld-clause-refused
returns-in-Err-SameOld-clause-refused c =
    (c.in-Err-SameOld.ensures.same_old c.in-Err-SameOld.j c.in-Err-SameOld.k).only (ap Err c.in-Err-SameOld.field-0-is)
