-- The mention is the next one, or there is none at this span.
use Rattle.relmove_mentions.proofs.MentionsLemmas.{AreMentionsBefore-none, AreMentionsBefore-push}
use Rattle.relmove_mentions.proofs.old_names.OldNames.push_at.Goals as goal

pub returns-in_ok-push-in-Some : goal.returns-in_ok-push-in-Some
returns-in_ok-push-in-Some c = λ olds has before.
    rw c.in_ok-push-in-Some.ensures.items
    (AreMentionsBefore-push olds c.args.searched.file c.args.mentions.now.items
    (record { span = c.args.span; path = c.in-Some.path }) (rw c.in-Some.is at (c.in_ok-found.ensures olds has)).1 before)

pub returns-in-None : goal.returns-in-None
returns-in-None c = λ olds has before.
    AreMentionsBefore-none olds c.args.searched.file c.args.mentions.now.items c.args.span
    (rw c.in-None.is at (c.in_ok-found.ensures olds has)) before
