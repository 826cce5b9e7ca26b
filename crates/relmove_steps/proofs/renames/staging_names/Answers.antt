-- Each turn draws the next name.
use Rattle.std.proofs.Common.{Global, map, string_bytes, arith}
use Rattle.std.proofs.lemmas.List.{length_push, map_push}
use Rattle.relmove_steps.proofs.NamesLemmas.{AreDrawn-next}
use Rattle.relmove_steps.proofs.renames.staging_names.Goals as goal

pub loop-preserved : goal.loop-preserved
loop-preserved c =
    let so_far = c.loop.staging.items in
    let name = c.in_ok-in_root.field-0 in
    let long = length_push so_far name in
    let count = c.loop.invariant.count in
    record {
      count = rw c.in_ok-push.ensures.items (omega (arith, long, count));
      free = λ index none.
          rw (c.in_ok-push.ensures.items, map_push (string_bytes {Z = Global}) so_far name)
          (AreDrawn-next index c.loop.names c.in_root.new.self (map (string_bytes {Z = Global}) so_far) (string_bytes name)
          c.in_ok-in_root.ensures.drawn (c.loop.invariant.free index none));
    }
