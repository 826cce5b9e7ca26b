-- A plain byte begins the next word, and no path ends before it.
use Rattle.std.proofs.Common.{◌-◌, ◌+◌, ◌∙◌, ◌==◌, ◌||◌, ◌≡◌, ap, arith, drop, false, get_or, inl, inr, not, subst, sym, take}
use Rattle.std.specs.List.{fold}
use Rattle.std.proofs.lemmas.Bool.{and_parts, cases_lt, not-true, or_parts}
use Rattle.relmove_mentions.specs.Endings.{next_ending}
use Rattle.relmove_mentions.specs.Spans.{is_bounded_after, is_path_byte}
use Rattle.relmove_mentions.proofs.SpansLemmas.{fold-rest, is_bounded_after-plain}
use Rattle.relmove_mentions.proofs.endings.with_next_word.Goals as goal

pub returns-clause-ending : goal.returns-clause-ending
returns-clause-ending c =
    let text = c.args.text.now in
    let end = c.with_plain_bytes.result.end in
    c.with_plain_bytes.ensures.ending
    ∙ ap (λ e. fold next_ending e (take (end - (c.args.start + 1)) (drop (c.args.start + 1) text))) c.then.ensures
    ∙ sym (fold-rest c.args.before text c.args.start end (omega (arith, c.with_plain_bytes.ensures.after))
    (omega (arith, c.if-text-start.false)))

pub returns-clause-inside : goal.returns-clause-inside
returns-clause-inside c = λ at later before.
    let text = c.args.text.now in
    let b = get_or text c.args.start 0 in
    let (path, marks) = and_parts (is_path_byte b) (not (b == 37 || b == 46 || b == 47))
    (sym c.is_plain_byte.ensures ∙ c.if-not-is_plain_byte.false) in
    let (marked, slashed) = or_parts (b == 37 || b == 46) (b == 47) (not-true (b == 37 || b == 46 || b == 47) marks) in
    let (percent, stop) = or_parts (b == 37) (b == 46) marked in
    elim (cases_lt c.args.start at) [
      | inl less ↦ c.with_plain_bytes.ensures.inside at (omega (arith, less)) before
      | inr same ↦
          let is : c.args.start ≡ at = omega (arith, later, same) in
          subst (λ end. is_bounded_after text end ≡ false) is
          (is_bounded_after-plain text c.args.start (omega (arith, c.if-text-start.false)) path stop)
    ]
