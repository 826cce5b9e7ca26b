-- The path is seen as a view.
use Rattle.relative_path_moves.proofs.tree_moves.TreeMoves.new_path.Goals as goal

pub returns : goal.returns
returns c = rw c.view.ensures.text at c.taken_to.ensures.own
