-- One more write adds the bytes that it took.
use Rattle.std.proofs.Common.{rules, ◌-◌, drop, length, length-drop, arith}
use Rattle.std.proofs.KnownBytes.{Appends-trans}
use Rattle.std.proofs.Math.Seq.{take-add}
use Rattle.std.proofs.lemmas.List.{take_all}
use Rattle.relpath_lib.proofs.output.write_all.Goals as goal

pub loop-written-preserved : goal.loop-written-preserved
loop-written-preserved g c =
    let written = c.loop-written.written in
    let bytes = c.args.bytes.now in
    let left = take_all (length bytes - written) (drop written bytes) (omega (arith, length-drop written bytes)) in
    record {
      within = search rules;
      gained =
          rw (take-add written c.in_ok-written.field-0 bytes)
          (Appends-trans _ _ _ _ _ c.loop-written.invariant.gained (rw left at c.in_ok-written.ensures.gained));
      writes = search rules;
      flushes = search rules;
      failures = search rules;
    }
