use Rattle.std.proofs.Common.{◌-◌, ◌≤◌, length}
use Rattle.std.specs.List.{position_or_len}
use Rattle.relative_path.specs.Steps.{is_slash}
use Rattle.relative_path.proofs.slashes.far_first_piece_len.Given as goal

abbrev pub invariant-loop-start : goal.invariant-loop-start
invariant-loop-start l = l.start ≤ position_or_len is_slash l.bytes

abbrev pub decreases-loop-start : goal.decreases-loop-start
decreases-loop-start l = length l.bytes - l.start
