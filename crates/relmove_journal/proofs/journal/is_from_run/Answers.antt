use Rattle.std.proofs.Common.{IsTrue, sym, ◌∙◌, true≢false, ◌↔◌}
use Rattle.relmove_journal.specs.Shape.{IsOfRun}
use Rattle.relmove_journal.proofs.LinesLemmas.{Says-written}
use Rattle.relmove_journal.proofs.PartsLemmas.{IsOfRun-parts}
use Rattle.relmove_journal.proofs.ReadingLemmas.{IfOk-map}
use Rattle.relmove_journal.proofs.journal.is_from_run.Goals as goal

pub returns-then-not-branch-clause-read : goal.returns-then-not-branch-clause-read
returns-then-not-branch-clause-read c = λ origin stage work run says.
    let yes = c.in_ok-is_text_of.ensures.1 (run.written ∙ Says-written c.args.journal.now origin stage work says) in
    absurd (true≢false (sym yes ∙ c.if-not-branch.true))

pub returns-clause-read : goal.returns-clause-read
returns-clause-read c = λ origin stage work run says.
    let journal = c.args.journal.now in
    IfOk-map c.is_of_run.result (λ yes. IsTrue yes ↔ IsOfRun journal.work) (λ yes. IsTrue yes)
    (λ yes decides. decides.1 (IsOfRun-parts work journal.work (sym says.same_work) run.of_run)) c.is_of_run.ensures.of_run
