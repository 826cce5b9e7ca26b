-- The pieces and numbers, one after the other.
use Rattle.std.proofs.Common.{append_assoc}
use Rattle.relative_path_moves.proofs.move_error.MoveErrorDisplay.fmt.Goals as goal

pub returns-in-SameOld-clause-writes : goal.returns-in-SameOld-clause-writes
returns-in-SameOld-clause-writes g c =
    rw (c.in-SameOld.is, append_assoc, append_assoc) c.write-in-SameOld.ensures.writes
