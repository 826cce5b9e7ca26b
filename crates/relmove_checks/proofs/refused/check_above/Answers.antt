-- Each move is fine, or is the first that isn't.
use Rattle.std.proofs.Common.{arith, []}
use Rattle.relative_path_moves.specs.Moves.{Move}
use Rattle.relmove_checks.specs.Trees.{IsBelowNo, is_barrier}
use Rattle.relmove_checks.specs.Refusals.{IsAboveRefusal}
use Rattle.relmove_checks.proofs.MovesLemmas.{EachMove-next, EachMove-all, IsOfFirst-here, IfErr-error}
use Rattle.relmove_checks.proofs.refused.check_above.Goals as goal

pub returns-in_err-check_place-clause-refused : goal.returns-in_err-check_place-clause-refused
returns-in_err-check_place-clause-refused c =
    IfErr-error c.from_residual.result c.in_err-check_place.field-0.0 _ c.from_residual.ensures.1
    (λ tree known.
    IsOfFirst-here (λ (move : Move). IsBelowNo (is_barrier c.args.barrier) tree c.args.entries.now move.new)
    c.args.moves.now c.loop-number.number c.index-moves-number.result
    c.loop-number-test.true c.index-moves-number.is (c.loop-number.invariant tree known)
    (IsAboveRefusal c.args.barrier tree c.args.entries.now)
    c.in_err-check_place.field-0.0 (c.in_err-check_place.ensures.refused [] tree known))

pub loop-number-preserved : goal.loop-number-preserved
loop-number-preserved c = λ tree known.
    EachMove-next (λ (move : Move). IsBelowNo (is_barrier c.args.barrier) tree c.args.entries.now move.new)
    c.args.moves.now c.loop-number.number c.index-moves-number.result
    c.loop-number-test.true c.index-moves-number.is (c.loop-number.invariant tree known) (c.in_ok-check_place.ensures.fine tree known)

pub returns-clause-fine : goal.returns-clause-fine
returns-clause-fine c = λ tree known.
    EachMove-all (λ (move : Move). IsBelowNo (is_barrier c.args.barrier) tree c.args.entries.now move.new)
    c.args.moves.now c.loop-number.number
    (grind (arith, c.loop-number-test.false)) (c.loop-number.invariant tree known)
