-- The page has one path after the moves, and the place where the reference led has one target. The result is the shortest
-- path between the two.
use Rattle.relative_path.specs.RelativePath.{path_components}
use Rattle.relative_path_moves.specs.Moves.{moves_of}
use Rattle.relative_path_moves.proofs.MoveTableLemmas.{above_root-in, no_path-in, stays-in, shortest-in}
use Rattle.relative_path_moves.proofs.move_table.MoveTable.moved_in.Goals as goal

pub returns-clause-above_root : goal.returns-clause-above_root
returns-clause-above_root c =
    let same = rw c.directory.ensures.components at c.in_ok-meant.ensures.same in
    above_root-in (moves_of c.args.self.now) (path_components c.args.page) (path_components c.args.reference)
    (path_components c.in_ok-now.now) (path_components c.file_of.result) c.in_ok-now.ensures.path
    (c.file_of.ensures _ same) c.link_to.result (rw c.directory-2.ensures.components at c.link_to.ensures)

pub returns-clause-no_path : goal.returns-clause-no_path
returns-clause-no_path c =
    let same = rw c.directory.ensures.components at c.in_ok-meant.ensures.same in
    no_path-in (moves_of c.args.self.now) (path_components c.args.page) (path_components c.args.reference)
    (path_components c.in_ok-now.now) (path_components c.file_of.result) c.in_ok-now.ensures.path
    (c.file_of.ensures _ same) c.link_to.result (rw c.directory-2.ensures.components at c.link_to.ensures)

pub returns-clause-stays : goal.returns-clause-stays
returns-clause-stays c =
    let same = rw c.directory.ensures.components at c.in_ok-meant.ensures.same in
    stays-in (moves_of c.args.self.now) (path_components c.args.page) (path_components c.args.reference)
    (path_components c.in_ok-now.now) (path_components c.file_of.result) c.in_ok-now.ensures.path
    (c.file_of.ensures _ same) c.link_to.result (rw c.directory-2.ensures.components at c.link_to.ensures)

pub returns-clause-shortest : goal.returns-clause-shortest
returns-clause-shortest c =
    let same = rw c.directory.ensures.components at c.in_ok-meant.ensures.same in
    shortest-in (moves_of c.args.self.now) (path_components c.args.page) (path_components c.args.reference)
    (path_components c.in_ok-now.now) (path_components c.file_of.result) c.in_ok-now.ensures.path
    (c.file_of.ensures _ same) c.link_to.result (rw c.directory-2.ensures.components at c.link_to.ensures)
