-- Each turn reads a plain byte, before which no path ends.
use Rattle.std.proofs.Common.{ap, arith, get_or, inl, inr, not, subst, sym, ◌≡◌, ◌==◌, ◌||◌, ◌∙◌, false}
use Rattle.std.proofs.lemmas.Bool.{and_parts, cases_lt, not-true, or_parts}
use Rattle.relmove_mentions.specs.Endings.{next_ending}
use Rattle.relmove_mentions.specs.Spans.{is_bounded_after, is_path_byte}
use Rattle.relmove_mentions.proofs.EndingsLemmas.{next-plain}
use Rattle.relmove_mentions.proofs.SpansLemmas.{fold-next, fold-none, is_bounded_after-plain}
use Rattle.relmove_mentions.proofs.endings.with_plain_bytes.Goals as goal

pub loop-end-init : goal.loop-end-init
loop-end-init c = record {
  after = omega arith;
  within = c.requires.within;
  ending = sym (fold-none c.args.before c.args.text.now c.args.start);
  inside = λ at later before. absurd (omega (arith, later, before));
}

pub loop-end-preserved : goal.loop-end-preserved
loop-end-preserved c =
    let inv = c.loop-end.invariant in
    let text = c.args.text.now in
    let within = c.loop-end-test.true in
    let b = get_or text c.loop-end.end 0 in
    let (path, marks) = and_parts (is_path_byte b) (not (b == 37 || b == 46 || b == 47))
    (sym c.is_plain_byte.ensures ∙ c.if-is_plain_byte.true) in
    let (marked, slashed) = or_parts (b == 37 || b == 46) (b == 47) (not-true (b == 37 || b == 46 || b == 47) marks) in
    let (percent, stop) = or_parts (b == 37) (b == 46) marked in
    record {
      after = omega (arith, inv.after);
      within = omega (arith, within);
      ending =
          ap (λ hash. record { hash = hash; encoded = c.args.before.encoded; ended = c.args.before.ended })
          c.hash_with-hash.ensures
          ∙ sym (next-plain (record { hash = c.loop-end.hash; encoded = c.args.before.encoded; ended = c.args.before.ended }) b
          path percent slashed c.requires.goes_on)
          ∙ ap (λ e. next_ending e b) inv.ending
          ∙ sym (fold-next c.args.before text c.args.start c.loop-end.end inv.after within);
      inside = λ at later before. elim (cases_lt at c.loop-end.end) [
        | inl less ↦ inv.inside at later less
        | inr more ↦
            let same : c.loop-end.end ≡ at = omega (arith, before, more) in
            subst (λ end. is_bounded_after text end ≡ false) same
            (is_bounded_after-plain text c.loop-end.end within path stop)
      ];
    }
