-- Each turn inserts the next path into the index, and keeps the first pair.
use Rattle.std.proofs.Common.{◌≡◌, length, map, take, subst, MatchOption, arith}
use Rattle.std.proofs.lemmas.List.{length-map, length-take-le, take_all}
use Rattle.relative_path_places.specs.PlaceIndex.{Indexes, IsFirstAt}
use Rattle.relative_path_moves.specs.MoveTable.{olds_of}
use Rattle.relative_path_moves.specs.Moves.{AreApart, IsFirstPair}
use Rattle.relative_path_moves.proofs.MovesLemmas.{length-olds_of, olds_of-here}
use Rattle.relative_path_moves.proofs.PairsLemmas.{HasPair-next, HasPair-all}
use Rattle.relative_path_moves.proofs.TreeMovesLemmas.{move_by, by_side-map}
use Rattle.relative_path_moves.proofs.tree_moves.by_path.Goals as goal

pub loop-k-preserved : goal.loop-k-preserved
loop-k-preserved c =
    let before = c.loop-k.invariant in
    let moves = c.args.moves.now in
    let f = move_by c.args.side in
    let within = c.loop-k-test.true in
    let next = c.first_pair-pair.ensures in
    let count : length (take c.loop-k.k (olds_of (map f moves))) ≡ c.loop-k.k =
    length-take-le c.loop-k.k (olds_of (map f moves)) (omega (arith, length-olds_of f moves, within)) in
    record {
      paths = olds_of-here (λ olds _. Indexes olds c.insert_normal.new.self) f moves c.index-moves-k.result c.loop-k.k within
          c.index-moves-k.is
          (c.in_ok-first.ensures.indexes _ (f c.index-moves-k.result).old before.paths count
          (rw c.in_ok-path.ensures.same c.path_on.ensures));
      pair = HasPair-next (map f moves) c.loop-k.k c.in_ok-first.first c.loop-k.pair c.first_pair-pair.result
          (rw (length-map moves f) within)
          (olds_of-here (λ olds old. IsFirstAt olds old c.in_ok-first.first) f moves c.index-moves-k.result c.loop-k.k within
          c.index-moves-k.is
          (c.in_ok-first.ensures.first _ (f c.index-moves-k.result).old before.paths count
          (rw c.in_ok-path.ensures.same c.path_on.ensures)))
          before.pair next.one next.earlier next.later;
    }

pub returns-clause-paths : goal.returns-clause-paths
returns-clause-paths c =
    let moves = c.args.moves.now in
    let f = move_by c.args.side in
    let all = take_all c.loop-k.k (olds_of (map f moves)) (omega (arith, length-olds_of f moves, c.loop-k-test.false)) in
    subst (λ ms. Indexes (olds_of ms) c.loop-k.index) (by_side-map c.args.side moves)
    (rw all at c.loop-k.invariant.paths)

pub returns-clause-pair : goal.returns-clause-pair
returns-clause-pair c =
    let moves = c.args.moves.now in
    let f = move_by c.args.side in
    subst (λ ms. MatchOption c.loop-k.pair (AreApart ms) (λ pair. IsFirstPair ms pair.0 pair.1))
    (by_side-map c.args.side moves)
    (HasPair-all (map f moves) c.loop-k.k c.loop-k.pair (omega (arith, length-map moves f, c.loop-k-test.false))
    c.loop-k.invariant.pair)
