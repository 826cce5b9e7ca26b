-- If no mention can begin at the offset, the next begins later.
use Rattle.std.proofs.Common.{IsTrue, sym, subst, true≢false, ◌∙◌}
use Rattle.relmove_mentions.specs.Spans.{is_bounded_before}
use Rattle.relmove_mentions.proofs.MentionsLemmas.{AreMentionsBefore-next}
use Rattle.relmove_mentions.proofs.old_names.OldNames.push_from.Goals as goal

pub returns-then-not-is_bounded_before : goal.returns-then-not-is_bounded_before
returns-then-not-is_bounded_before c = λ olds has before.
    AreMentionsBefore-next olds c.args.searched.file c.args.mentions.now.items c.args.start 0
    (λ span old is same.
    absurd
    (true≢false
    (sym (subst (λ at. IsTrue (is_bounded_before c.args.searched.file.text.now at)) same is.bounded.before)
    ∙ sym c.is_bounded_before.ensures ∙ c.if-not-is_bounded_before.true))) before
