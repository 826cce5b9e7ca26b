-- The place where the reference led has one target, and the result is the shortest path to it.
use Rattle.relative_path.specs.RelativePath.{path_components}
use Rattle.relative_path_moves.specs.Moves.{moves_of}
use Rattle.relative_path_moves.specs.MoveTable.{IsShortestBuffer}
use Rattle.relative_path_moves.proofs.MoveTableLemmas.{above_root-way, no_path-way, shortest-way, reach-way}
use Rattle.relative_path_moves.proofs.move_table.MoveTable.moved.Goals as goal

pub returns-clause-above_root : goal.returns-clause-above_root
returns-clause-above_root c =
    let same = rw (c.directory.ensures.components, c.paths.ensures.old) at c.in_ok-meant.ensures.same in
    let way = rw (c.directory-2.ensures.components, c.paths.ensures.new) at c.way_or_refusal.ensures in
    above_root-way (moves_of c.args.self.now) _ _ (path_components c.file_of.result) (c.file_of.ensures _ same)
    (IsShortestBuffer _ _) c.way_or_refusal.result way

pub returns-clause-no_path : goal.returns-clause-no_path
returns-clause-no_path c =
    let same = rw (c.directory.ensures.components, c.paths.ensures.old) at c.in_ok-meant.ensures.same in
    let way = rw (c.directory-2.ensures.components, c.paths.ensures.new) at c.way_or_refusal.ensures in
    no_path-way (moves_of c.args.self.now) _ _ (path_components c.file_of.result) (c.file_of.ensures _ same)
    (IsShortestBuffer _ _) c.way_or_refusal.result (reach-way _ _) way

pub returns-clause-shortest : goal.returns-clause-shortest
returns-clause-shortest c =
    let same = rw (c.directory.ensures.components, c.paths.ensures.old) at c.in_ok-meant.ensures.same in
    let way = rw (c.directory-2.ensures.components, c.paths.ensures.new) at c.way_or_refusal.ensures in
    shortest-way (moves_of c.args.self.now) _ _ (path_components c.file_of.result) (c.file_of.ensures _ same)
    c.way_or_refusal.result way
