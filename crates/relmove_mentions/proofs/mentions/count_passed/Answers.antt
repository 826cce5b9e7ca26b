-- Each turn passes a span that has ended.
use Rattle.relmove_mentions.specs.declared.text_span.TextSpan.{TextSpan}
use Rattle.relmove_mentions.proofs.SpansLemmas.{ArePassed-next}
use Rattle.relmove_mentions.proofs.mentions.count_passed.Goals as goal

pub loop-count-preserved : goal.loop-count-preserved
loop-count-preserved c =
    let none : TextSpan = record { start = 0; end = 0 } in
    ArePassed-next c.args.spans.now c.loop-count.count c.args.at none c.loop-count-test.true c.if-spans-count.true
    c.loop-count.invariant
