-- The notices so far are those of the entries so far.
use Rattle.std.proofs.Common.{take}
use Rattle.relmove_plan.specs.Symlinks.{AreNotices}
use Rattle.relmove_plan.proofs.symlinks.symlink_notices.Given as goal

abbrev pub invariant-loop-entry : goal.invariant-loop-entry
invariant-loop-entry l = AreNotices l.moves (take l.entry-index l.entries) l.notices.items
