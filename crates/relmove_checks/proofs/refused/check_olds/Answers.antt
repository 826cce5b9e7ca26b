-- Each move is fine, or is the first that isn't.
use Rattle.std.proofs.Common.{arith, []}
use Rattle.relative_path_moves.specs.Moves.{Move}
use Rattle.relmove_checks.specs.Trees.{IsOldFine}
use Rattle.relmove_checks.specs.Refusals.{IsOldRefusal}
use Rattle.relmove_checks.proofs.MovesLemmas.{EachMove-next, EachMove-all, IsOfFirst-here, IfErr-error}
use Rattle.relmove_checks.proofs.refused.check_olds.Goals as goal

pub returns-in_err-check_old-clause-refused : goal.returns-in_err-check_old-clause-refused
returns-in_err-check_old-clause-refused c =
    IfErr-error c.from_residual.result c.in_err-check_old.field-0.0 _ c.from_residual.ensures.1
    (λ entries index are.
    IsOfFirst-here (λ (move : Move). IsOldFine entries move.old) c.args.moves.now c.loop-number.number c.index-moves-number.result
    c.loop-number-test.true c.index-moves-number.is (c.loop-number.invariant entries index are) (IsOldRefusal entries)
    c.in_err-check_old.field-0.0 (c.in_err-check_old.ensures.refused entries [] index are))

pub loop-number-preserved : goal.loop-number-preserved
loop-number-preserved c = λ entries index are.
    EachMove-next (λ (move : Move). IsOldFine entries move.old) c.args.moves.now c.loop-number.number c.index-moves-number.result
    c.loop-number-test.true c.index-moves-number.is (c.loop-number.invariant entries index are)
    (c.in_ok-check_old.ensures.fine entries index are)

pub returns-clause-fine : goal.returns-clause-fine
returns-clause-fine c = λ entries index are.
    EachMove-all (λ (move : Move). IsOldFine entries move.old) c.args.moves.now c.loop-number.number
    (grind (arith, c.loop-number-test.false)) (c.loop-number.invariant entries index are)
