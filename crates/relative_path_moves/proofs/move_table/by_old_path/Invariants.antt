-- The index has the old paths so far, and the pair is the first pair among them.
use Rattle.std.proofs.Common.{take}
use Rattle.relative_path_moves.specs.Moves.{moves_of}
use Rattle.relative_path_places.specs.PlaceIndex.{Indexes}
use Rattle.relative_path_moves.specs.MoveTable.{olds_of}
use Rattle.relative_path_moves.proofs.PairsLemmas.{HasPair}
use Rattle.relative_path_moves.proofs.move_table.by_old_path.Given as goal

abbrev pub invariant-loop-k : goal.invariant-loop-k
invariant-loop-k l = record {
  olds : Indexes (take l.k (olds_of (moves_of l.moves))) l.by_old;
  pair : HasPair (moves_of l.moves) l.k l.pair;
}
