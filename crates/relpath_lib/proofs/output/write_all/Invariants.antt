-- These bytes were written to the writer, at least one by each write.
use Rattle.std.proofs.Common.{◌≡◌, ◌+◌, ◌-◌, ◌≤◌, take, length}
use Rattle.relpath_lib.specs.Meter.{calls_of, flushes_of, failures_of, Appended}
use Rattle.relpath_lib.proofs.output.write_all.Given as goal

abbrev pub invariant-loop-written : goal.invariant-loop-written
invariant-loop-written g l = record {
  within : l.written ≤ length l.bytes;
  gained : Appended g.W.Write.contents l.fn.writer l.writer (take l.written l.bytes);
  writes : calls_of l.writer ≤ calls_of l.fn.writer + l.written;
  flushes : flushes_of l.writer ≡ flushes_of l.fn.writer;
  failures : failures_of l.writer ≡ failures_of l.fn.writer;
}

abbrev pub decreases-loop-written : goal.decreases-loop-written
decreases-loop-written g l = length l.bytes - l.written
