use Rattle.std.proofs.Common.{◌≤◌, length}
use Rattle.relative_path.specs.Slashes.{last_start}
use Rattle.relative_path.specs.Steps.{is_slash}
use Rattle.relative_path.proofs.slashes.far_last_piece_start.Given as goal

abbrev pub invariant-loop-end : goal.invariant-loop-end
invariant-loop-end l = record {
  before : last_start is_slash l.bytes ≤ l.end;
  bound : l.end ≤ length l.bytes;
}

abbrev pub decreases-loop-end : goal.decreases-loop-end
decreases-loop-end l = l.end
