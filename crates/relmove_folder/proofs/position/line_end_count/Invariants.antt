-- The line ends before the block are counted.
use Rattle.std.proofs.Common.{◌≡◌, ◌-◌, ◌+◌, ◌≤◌, drop, length}
use Rattle.std.specs.List.{count_by}
use Rattle.relmove_folder.specs.Position.{is_line_end}
use Rattle.relmove_folder.proofs.position.line_end_count.Given as goal

abbrev pub invariant-loop-start : goal.invariant-loop-start
invariant-loop-start l = record {
  within : l.start ≤ length l.text;
  counted : l.count + count_by is_line_end (drop l.start l.text) ≡ count_by is_line_end l.text;
}

abbrev pub decreases-loop-start : goal.decreases-loop-start
decreases-loop-start l = length l.text - l.start
