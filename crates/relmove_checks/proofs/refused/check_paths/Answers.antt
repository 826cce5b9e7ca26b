-- Each move is fine, or is the first that isn't.
use Rattle.relmove_checks.specs.Moves.{HasFinePaths}
use Rattle.relmove_checks.proofs.MovesLemmas.{EachMove-next}
use Rattle.relmove_checks.proofs.refused.check_paths.Goals as goal

pub loop-number-preserved : goal.loop-number-preserved
loop-number-preserved c =
    EachMove-next (HasFinePaths c.args.rule) c.args.moves.now c.loop-number.number c.index-moves-number.result
    c.loop-number-test.true c.index-moves-number.is c.loop-number.invariant c.in_ok-check_move.ensures.fine
