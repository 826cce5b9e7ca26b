-- A test that fails gives the refusal.
use Rattle.std.proofs.lemmas.Result.{IfErr-weaker, IfOk-weaker}
use Rattle.relmove_checks.proofs.MovesLemmas.{IfErr-error}
use Rattle.relmove_checks.proofs.refused.check_move.Goals as goal

pub returns-in_err-check_placed-clause-refused : goal.returns-in_err-check_placed-clause-refused
returns-in_err-check_placed-clause-refused c =
    IfErr-error c.from_residual.result c.in_err-check_placed.field-0.0 _ c.from_residual.ensures.1
    ((rw (c.written-from.ensures, c.written-to.ensures) at c.in_err-check_placed.ensures.refused) c.args.rule)

pub returns-in_err-check_outside-clause-refused : goal.returns-in_err-check_outside-clause-refused
returns-in_err-check_outside-clause-refused c =
    IfErr-error c.from_residual-in_err-check_outside.result c.in_err-check_outside.field-0.0 _
    c.from_residual-in_err-check_outside.ensures.1
    (c.in_err-check_outside.ensures.refused c.args.rule
    (rw (c.written-from.ensures, c.written-to.ensures) at c.in_ok-check_placed.ensures.fine))

pub returns-clause-fine : goal.returns-clause-fine
returns-clause-fine c =
    IfOk-weaker c.check_names.result _ _
    (λ _ fine. fine (rw (c.written-from.ensures, c.written-to.ensures) at c.in_ok-check_placed.ensures.fine)
    c.in_ok-check_outside.ensures.fine)
    (rw (c.written-from.ensures, c.written-to.ensures) at c.check_names.ensures.fine)

pub returns-clause-refused : goal.returns-clause-refused
returns-clause-refused c =
    IfErr-weaker c.check_names.result _ _
    (λ refusal refused. refused (rw (c.written-from.ensures, c.written-to.ensures) at c.in_ok-check_placed.ensures.fine)
    c.in_ok-check_outside.ensures.fine)
    (rw (c.written-from.ensures, c.written-to.ensures) at c.check_names.ensures.refused)
