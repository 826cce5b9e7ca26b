-- No byte of the class comes before the offset.
use Rattle.std.proofs.Common.{◌-◌, ◌≤◌, length}
use Rattle.std.specs.List.{position_or_len}
use Rattle.byte_classes.proofs.len_before.Given as goal

abbrev pub invariant-loop-start : goal.invariant-loop-start
invariant-loop-start g l = l.start ≤ position_or_len (g.C.ByteClass.has l.class) l.text

abbrev pub decreases-loop-start : goal.decreases-loop-start
decreases-loop-start g l = length l.text - l.start
