-- The filled bytes were read from the reader, at least one by each read.
use Rattle.std.proofs.Common.{◌≡◌, ◌+◌, ◌-◌, ◌≤◌, ◌<◌, take, vec_len}
use Rattle.std.specs.Vec.{vec_capacity}
use Rattle.relpath_lib.specs.Input.{max_input_len}
use Rattle.relpath_lib.specs.Meter.{calls_of, flushes_of, failures_of, Consumed}
use Rattle.relpath_lib.proofs.input.read_input.Given as goal

abbrev pub invariant-loop-filled : goal.invariant-loop-filled
invariant-loop-filled g l = record {
  room : max_input_len + 1 ≤ vec_capacity l.input;
  within : vec_len l.input ≤ max_input_len + 1;
  filled : l.filled ≤ vec_len l.input;
  came : Consumed g.R.Read.remaining l.fn.reader l.reader (take l.filled l.input.items);
  some : 0 < l.filled → 0 < calls_of l.reader;
  reads : calls_of l.reader ≤ l.filled;
  failures : failures_of l.reader ≡ 0;
  flushes : flushes_of l.reader ≡ 0;
}

abbrev pub decreases-loop-filled : goal.decreases-loop-filled
decreases-loop-filled g l = max_input_len + 1 - l.filled
