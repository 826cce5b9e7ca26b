-- Each read adds bytes after the filled ones.
use Rattle.std.proofs.Common.{rules, ◌≡◌, ◌+◌, length-take, arith}
use Rattle.std.proofs.KnownBytes.{Consumes-kept}
use Rattle.relpath_lib.proofs.InputLemmas.{IfErr-at, Consumes-next, Consumes-widened}
use Rattle.relpath_lib.proofs.input.read_input.Goals as goal

pub returns-in_err-count-clause-fault : goal.returns-in_err-count-clause-fault
returns-in_err-count-clause-fault g c =
    let before = c.loop-filled.invariant in
    let came = Consumes-kept _ _ _ _ before.came c.in_err-count.ensures.err in
    let counted = c.in_err-count.ensures.counts.failures in
    let filled = length-take c.loop-filled.filled c.loop-filled.input.items in
    IfErr-at _ _ _ c.from_residual-in_err-count.ensures.1
    (rw c.in_err-count.ensures.fault (omega arith, (_, came, omega arith)))

pub returns-then-count-eq0-clause-input : goal.returns-then-count-eq0-clause-input
returns-then-count-eq0-clause-input g c =
    let read = c.in_ok-count.ensures in
    let no_more : c.loop-filled.filled + c.in_ok-count.count ≡ c.loop-filled.filled = omega arith in
    let before = c.loop-filled.invariant in
    let buffer = c.as_mut_slice.ensures.value in
    let came = Consumes-widened _ _ _ _ _ _ c.widen.ensures.kept before.filled before.came in
    rw (c.truncate.ensures.items, ← no_more)
    (Consumes-next _ _ _ _ _ _ _ _ _ buffer (search rules) read.front came read.came)

pub loop-filled-preserved : goal.loop-filled-preserved
loop-filled-preserved g c =
    let read = c.in_ok-count.ensures in
    let before = c.loop-filled.invariant in
    let buffer = c.as_mut_slice.ensures.value in
    let came = Consumes-widened _ _ _ _ _ _ c.widen.ensures.kept before.filled before.came in
    record {
      room = search rules;
      within = search rules;
      filled = search rules;
      came = Consumes-next _ _ _ _ _ _ _ _ _ buffer (search rules) read.front came read.came;
      some = search rules;
      reads = search rules;
      failures = search rules;
      flushes = search rules;
    }
