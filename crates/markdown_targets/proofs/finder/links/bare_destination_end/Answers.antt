-- Each step goes to the next mark, and the destination goes on to there.
use Rattle.std.proofs.Common.{false, drop, sym, ap, ◌∙◌, arith}
use Rattle.markdown_targets.specs.Destinations.{end_of}
use Rattle.markdown_targets.proofs.OffsetsLemmas.{end_of-first, end_of-next}
use Rattle.markdown_targets.proofs.finder.links.bare_destination_end.Goals as goal

pub loop-k-init : goal.loop-k-init
loop-k-init c =
    let first = c.destination_mark_at-k.ensures in
    record {
      within = first.within;
      few = omega arith;
      left = end_of-first 0 c.args.start c.destination_mark_at-k.result c.args.text.now first.first;
    }

pub loop-k-preserved : goal.loop-k-preserved
loop-k-preserved c =
    let next = c.destination_mark_at-k-in-loop-k.ensures in
    record {
      within = (omega (arith, next.within.0, c.skip_escape_or_byte.ensures.within.0, c.loop-k.invariant.within.0), next.within.1);
      few = c.depth_after-depth.ensures.within;
      left =
          c.loop-k.invariant.left
          ∙ end_of-next c.loop-k.depth c.loop-k.k c.skip_escape_or_byte.result c.destination_mark_at-k-in-loop-k.result c.args.text.now
          c.loop-k-test.true (sym c.if-not-stops.ensures) c.skip_escape_or_byte.ensures.step next.first
          ∙ ap (λ d. end_of false d c.destination_mark_at-k-in-loop-k.result
          (drop c.destination_mark_at-k-in-loop-k.result c.args.text.now)) (sym c.depth_after-depth.ensures.after);
    }
