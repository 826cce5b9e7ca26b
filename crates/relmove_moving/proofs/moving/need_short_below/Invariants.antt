-- The number of directories whose names were asked for grows.
use Rattle.std.proofs.Common.{◌-◌, ◌^◌}
use Rattle.relmove_moving.proofs.moving.need_short_below.Given as goal

abbrev pub decreases-loop-old : goal.decreases-loop-old
decreases-loop-old g l = 2 ^ 64 - l.next
