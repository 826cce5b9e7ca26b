use Rattle.std.proofs.Common.{sym, ◌∙◌, true≢false}
use Rattle.relmove_journal.proofs.journal.journal_of.Goals as goal

pub returns-then-not-branch-clause-read : goal.returns-then-not-branch-clause-read
returns-then-not-branch-clause-read c = λ origin stage work run.
    let yes = c.in_ok-is_from_run.ensures.read origin stage work run (c.in_ok-journal.ensures origin stage work run) in
    absurd (true≢false (sym yes ∙ c.if-not-branch.true))
