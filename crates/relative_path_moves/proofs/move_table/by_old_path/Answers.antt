-- Each turn inserts the next old path into the index, and keeps the first pair.
use Rattle.std.proofs.Common.{◌≡◌, length, take, arith}
use Rattle.std.proofs.lemmas.List.{length-map, length-take-le}
use Rattle.relative_path_moves.specs.Moves.{moves_of}
use Rattle.relative_path_places.specs.PlaceIndex.{Indexes, IsFirstAt}
use Rattle.relative_path_moves.specs.MoveTable.{olds_of}
use Rattle.relative_path_moves.proofs.MovesLemmas.{length-olds_of, move_of_pair, olds_of-next}
use Rattle.relative_path_moves.proofs.PairsLemmas.{HasPair-next}
use Rattle.relative_path_moves.proofs.move_table.by_old_path.Goals as goal

pub loop-k-preserved : goal.loop-k-preserved
loop-k-preserved c =
    let before = c.loop-k.invariant in
    let paths = c.args.moves.now in
    let moves = moves_of paths in
    let within = c.loop-k-test.true in
    let next = c.first_pair-pair.ensures in
    let count : length (take c.loop-k.k (olds_of (moves_of c.args.moves.now))) ≡ c.loop-k.k =
    length-take-le c.loop-k.k (olds_of moves) (omega (arith, length-olds_of move_of_pair paths, within)) in
    record {
      olds = olds_of-next (λ olds _. Indexes olds c.insert.new.self) move_of_pair paths _ c.loop-k.k within
          (c.in_ok-first.ensures.indexes _ before.olds count);
      pair = HasPair-next moves c.loop-k.k c.in_ok-first.first c.loop-k.pair c.first_pair-pair.result
          (rw (length-map paths move_of_pair) within)
          (olds_of-next (λ olds old. IsFirstAt olds old c.in_ok-first.first) move_of_pair paths _ c.loop-k.k within
          (c.in_ok-first.ensures.first _ before.olds count))
          before.pair next.one next.earlier next.later;
    }
