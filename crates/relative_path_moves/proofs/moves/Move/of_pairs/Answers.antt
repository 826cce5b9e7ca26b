-- Each turn adds the move of the next pair.
use Rattle.std.proofs.Common.{ap, ◌∙◌}
use Rattle.std.proofs.lemmas.List.{take_all}
use Rattle.relative_path_moves.specs.Moves.{moves_of}
use Rattle.relative_path_moves.proofs.MovesLemmas.{paths_of-next, written_moves-paths}
use Rattle.relative_path_moves.proofs.moves.Move.of_pairs.Goals as goal

pub loop-old-preserved : goal.loop-old-preserved
loop-old-preserved c =
    rw c.in_ok-push.ensures.items
    (paths_of-next c.args.pairs.now _ c.loop-old.old-index c.loop-old.moves.items c.in_ok-a.a c.loop-old-test.true
    c.loop-old.invariant c.in_ok-a.ensures.old c.in_ok-a.ensures.new)

pub returns-clause-pairs : goal.returns-clause-pairs
returns-clause-pairs c = c.loop-old.invariant ∙ take_all c.loop-old.old-index c.args.pairs.now c.loop-old-test.false

pub returns-clause-moves : goal.returns-clause-moves
returns-clause-moves c =
    written_moves-paths c.loop-old.moves.items
    ∙ ap moves_of (c.loop-old.invariant ∙ take_all c.loop-old.old-index c.args.pairs.now c.loop-old-test.false)
