-- The paths of the pairs so far.
use Rattle.std.proofs.Common.{◌≡◌, map, take}
use Rattle.relative_path_moves.specs.Moves.{paths_of}
use Rattle.relative_path_moves.proofs.moves.Move.of_pairs.Given as goal

abbrev pub invariant-loop-old : goal.invariant-loop-old
invariant-loop-old l = map paths_of l.moves.items ≡ take l.old-index l.pairs
