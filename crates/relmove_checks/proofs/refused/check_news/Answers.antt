-- Each move is fine, or is the first that isn't.
use Rattle.std.proofs.Common.{arith, []}
use Rattle.relative_path_moves.specs.Moves.{Move}
use Rattle.relmove_checks.specs.Trees.{IsFree}
use Rattle.relmove_checks.specs.Refusals.{IsNewRefusal}
use Rattle.relmove_checks.proofs.MovesLemmas.{EachMove-next, EachMove-all, IsOfFirst-here, IfErr-error}
use Rattle.relmove_checks.proofs.refused.check_news.Goals as goal

pub returns-in_err-check_new-clause-refused : goal.returns-in_err-check_new-clause-refused
returns-in_err-check_new-clause-refused c =
    IfErr-error c.from_residual.result c.in_err-check_new.field-0.0 _ c.from_residual.ensures.1
    (IsOfFirst-here (λ (move : Move). IsFree c.args.table.now c.args.entries.now move.new) c.args.moves.now
    c.loop-number.number c.index-moves-number.result c.loop-number-test.true c.index-moves-number.is
    c.loop-number.invariant (IsNewRefusal c.args.table.now c.args.entries.now) c.in_err-check_new.field-0.0
    (c.in_err-check_new.ensures.refused []))

pub loop-number-preserved : goal.loop-number-preserved
loop-number-preserved c =
    EachMove-next (λ (move : Move). IsFree c.args.table.now c.args.entries.now move.new) c.args.moves.now
    c.loop-number.number c.index-moves-number.result
    c.loop-number-test.true c.index-moves-number.is c.loop-number.invariant c.in_ok-check_new.ensures.fine

pub returns-clause-fine : goal.returns-clause-fine
returns-clause-fine c =
    EachMove-all (λ (move : Move). IsFree c.args.table.now c.args.entries.now move.new) c.args.moves.now c.loop-number.number
    (grind (arith, c.loop-number-test.false)) c.loop-number.invariant
