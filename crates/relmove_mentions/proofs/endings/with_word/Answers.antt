-- After the first byte the next word begins, or plain bytes go on.
use Rattle.std.proofs.Common.{arith, drop, sym, take, ap, ◌-◌, ◌+◌, ◌∙◌}
use Rattle.std.specs.List.{fold}
use Rattle.relmove_mentions.specs.Endings.{next_ending}
use Rattle.relmove_mentions.proofs.SpansLemmas.{fold-rest}
use Rattle.relmove_mentions.proofs.endings.with_word.Goals as goal

pub returns-then-ending-clause-ending : goal.returns-then-ending-clause-ending
returns-then-ending-clause-ending c =
    let text = c.args.text.now in
    let end = c.with_next_word.result.end in
    c.with_next_word.ensures.ending
    ∙ ap (λ e. fold next_ending e (take (end - (c.args.start + 1)) (drop (c.args.start + 1) text))) c.then-ending.ensures
    ∙ sym (fold-rest c.args.before text c.args.start end (omega (arith, c.with_next_word.ensures.after)) c.requires)

pub returns-clause-ending : goal.returns-clause-ending
returns-clause-ending c =
    let text = c.args.text.now in
    let end = c.with_plain_bytes.result.end in
    c.with_plain_bytes.ensures.ending
    ∙ ap (λ e. fold next_ending e (take (end - (c.args.start + 1)) (drop (c.args.start + 1) text))) c.then-ending.ensures
    ∙ sym (fold-rest c.args.before text c.args.start end (omega (arith, c.with_plain_bytes.ensures.after)) c.requires)
