-- Each turn passes an end at which no candidate ends.
use Rattle.std.proofs.Common.{◌≡◌, ◌-◌, ◌&&◌, drop, sym, take, ap, arith, inl, inr, ◌∙◌}
use Rattle.std.specs.List.{fold}
use Rattle.std.proofs.lemmas.Bool.{cases_lt}
use Rattle.relmove_mentions.specs.Endings.{ending_of, may_end, next_ending}
use Rattle.relmove_mentions.specs.Spans.{is_bounded_after}
use Rattle.relmove_mentions.proofs.MentionsLemmas.{ends-after_word, ends-later}
use Rattle.relmove_mentions.proofs.SpansLemmas.{ending_of-later}
use Rattle.relmove_mentions.proofs.mentions.next_end.Goals as goal

pub returns-then-can_end-clause-first : goal.returns-then-can_end-clause-first
returns-then-can_end-clause-first c = λ span is later.
    ends-after_word c.args.endings.now c.args.text.now span c.loop-end.end c.with_word-word.result.end is
    (c.loop-end.invariant.later span is later) c.with_word-word.ensures.inside

pub loop-end-preserved : goal.loop-end-preserved
loop-end-preserved c =
    let inv = c.loop-end.invariant in
    let text = c.args.text.now in
    let end = c.with_word-word.result.end in
    let word = c.with_word-word.ensures in
    let ending : c.with_word-word.result.ending ≡ ending_of (take (end - c.args.start) (drop c.args.start text)) =
    word.ending ∙ ap (λ e. fold next_ending e (take (end - c.loop-end.end) (drop c.loop-end.end text))) inv.ending
    ∙ sym (ending_of-later text c.args.start c.loop-end.end end inv.order (omega (arith, word.after))) in
    record {
      order = omega (arith, inv.order, word.after);
      within = word.within;
      ending = ending;
      later = λ span is later.
          ends-later c.args.endings.now text span c.args.start end is later
          (ends-after_word c.args.endings.now text span c.loop-end.end end is (inv.later span is later) word.inside)
          (ap (λ e. is_bounded_after text end && may_end c.args.endings.now e) (sym ending)
          ∙ sym c.can_end.ensures ∙ c.if-can_end.false);
    }

pub returns-clause-none : goal.returns-clause-none
returns-clause-none c = λ span is.
    elim (cases_lt span.start c.args.start) [
      | inl less ↦ less
      | inr later ↦
          absurd (omega (arith, c.loop-end.invariant.later span is later, is.bounded.within, c.loop-end-test.false))
    ]
