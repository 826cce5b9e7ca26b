-- The first word is the one that is found.
use Rattle.std.proofs.Common.{◌≡◌, ◌-◌, ◌+◌, true, false, length, drop, take, Some, sym, ap, subst, ◌∙◌, arith}
use Rattle.std.proofs.lemmas.List.{take_all, length-drop}
use Rattle.markdown_targets.specs.Words.{begins_with}
use Rattle.markdown_targets.proofs.OffsetsLemmas.{word_end-here, word_end-later}
use Rattle.markdown_targets.proofs.finder.bytes.find_end.Goals as goal

pub returns-in-Some-clause-end : goal.returns-in-Some-clause-end
returns-in-Some-clause-end c =
    let text = c.args.text.now in
    let word = c.args.word.now in
    let k = c.loop-k.k in
    let inside = c.loop-k-test.true in
    let cases = c.in-Some.ensures.cases in
    let whole = take_all (length text - k) (drop k text) (omega (arith, length-drop k text)) in
    let rest : length (take (length text - k) (drop k text)) ≡ length text - k = ap length whole ∙ length-drop k text in
    let end : length text - length c.in-Some.rest.now ≡ k + length word = omega (arith, cases.2, rest, inside) in
    ap Some end
    ∙ sym (word_end-here word text k inside (subst (λ l. begins_with word l ≡ true) whole cases.0))
    ∙ sym c.loop-k.invariant.none_before

pub loop-k-preserved : goal.loop-k-preserved
loop-k-preserved c =
    let text = c.args.text.now in
    let word = c.args.word.now in
    let k = c.loop-k.k in
    let next = c.word_start-k-in-loop-k.ensures in
    let whole = take_all (length text - k) (drop k text) (omega (arith, length-drop k text)) in
    record {
      within = (omega (arith, next.within.0, c.loop-k.invariant.within.0), next.within.1);
      none_before =
          c.loop-k.invariant.none_before
          ∙ word_end-later word text k c.loop-k-test.true
          (subst (λ l. begins_with word l ≡ false) whole c.in_default.ensures.cases)
          ∙ next.none_before;
    }
