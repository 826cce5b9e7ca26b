-- Each turn passes a span of which the span has no byte.
use Rattle.std.proofs.Common.{sym, ◌∙◌}
use Rattle.relmove_mentions.specs.declared.text_span.TextSpan.{TextSpan}
use Rattle.relmove_mentions.proofs.SpansLemmas.{list_all-drop_before, list_all-drop_end, list_all-drop_first, list_all-drop_passed}
use Rattle.relmove_mentions.proofs.mentions.is_unread.Goals as goal

pub returns-then-span-other : goal.returns-then-span-other
returns-then-span-other c =
    let none : TextSpan = record { start = 0; end = 0 } in
    sym (list_all-drop_before c.args.span none c.args.spans.now c.loop-count.count c.loop-count-test.true c.if-span-other.true
    c.requires.in_order)
    ∙ c.loop-count.invariant

pub returns-then-not-is_apart : goal.returns-then-not-is_apart
returns-then-not-is_apart c =
    let none : TextSpan = record { start = 0; end = 0 } in
    sym (list_all-drop_first c.args.span none c.args.spans.now c.loop-count.count c.loop-count-test.true
    (sym c.is_apart.ensures ∙ c.if-not-is_apart.true))
    ∙ c.loop-count.invariant

pub loop-count-preserved : goal.loop-count-preserved
loop-count-preserved c =
    let none : TextSpan = record { start = 0; end = 0 } in
    list_all-drop_passed c.args.span none c.args.spans.now c.loop-count.count c.loop-count-test.true
    (sym c.is_apart.ensures ∙ c.if-not-is_apart.false) ∙ c.loop-count.invariant

pub returns : goal.returns
returns c =
    sym (list_all-drop_end c.args.span c.args.spans.now c.loop-count.count c.loop-count-test.false)
    ∙ c.loop-count.invariant
