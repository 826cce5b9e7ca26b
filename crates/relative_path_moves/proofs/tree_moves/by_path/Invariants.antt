-- The index has the paths so far, and the pair is the first pair among them.
use Rattle.std.proofs.Common.{map, take}
use Rattle.relative_path_places.specs.PlaceIndex.{Indexes}
use Rattle.relative_path_moves.specs.MoveTable.{olds_of}
use Rattle.relative_path_moves.proofs.PairsLemmas.{HasPair}
use Rattle.relative_path_moves.proofs.TreeMovesLemmas.{move_by}
use Rattle.relative_path_moves.proofs.tree_moves.by_path.Given as goal

abbrev pub invariant-loop-k : goal.invariant-loop-k
invariant-loop-k l = record {
  paths : Indexes (take l.k (olds_of (map (move_by l.side) l.moves))) l.index;
  pair : HasPair (map (move_by l.side) l.moves) l.k l.pair;
}
