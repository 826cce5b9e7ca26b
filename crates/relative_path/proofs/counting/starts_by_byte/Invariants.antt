use Rattle.std.proofs.Common.{◌≡◌, ◌+◌, ◌<◌}
use Rattle.relative_path.specs.Counting.{starts_from}
use Rattle.relative_path.proofs.counting.starts_by_byte.Given as goal

abbrev pub invariant-loop-at : goal.invariant-loop-at
invariant-loop-at l = record {
  count : l.count + starts_from l.bytes l.at ≡ starts_from l.bytes 1;
  bound : l.count < l.at;
}
