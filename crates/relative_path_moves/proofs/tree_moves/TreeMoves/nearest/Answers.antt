-- Each turn looks up what is left of the place, and then takes its last component off.
use Rattle.relative_path.proofs.ForCallers.{IsSame-refl}
use Rattle.relative_path_places.proofs.ForCallers.{IsNormalText-view}
use Rattle.relative_path_places.specs.PlaceIndex.{IsFirstAt}
use Rattle.relative_path_places.specs.Views.{view_text, view_components}
use Rattle.relative_path_moves.specs.MoveTable.{olds_of}
use Rattle.relative_path_moves.proofs.TreeMovesLemmas.{NearestUpTo-found, IsNormalTextOf-found}
use Rattle.relative_path_moves.proofs.tree_moves.TreeMoves.nearest.Goals as goal
use Rattle.relative_path_moves.proofs.tree_moves.TreeMoves.nearest.Goals.{In-Some}

-- the move's old path leads to what is left
found : (c : In-Some) → IsFirstAt (olds_of c.args.self.now) (view_components c.loop-j.above) c.in-Some.j
found c =
    let table = rw c.self.view_is at c.self.invariant in
    let above = view_components c.loop-j.above in
    c.in-Some.ensures.found (olds_of c.args.self.now) above table.olds (IsSame-refl above)

pub returns-in-Some-clause-nearest : goal.returns-in-Some-clause-nearest
returns-in-Some-clause-nearest c =
    NearestUpTo-found (olds_of c.args.self.now) (view_components c.args.place) (view_components c.loop-j.above) c.in-Some.j
    c.loop-j.invariant (found (goal.at.returns-in-Some-clause-nearest c).In-Some)

pub returns-in-Some-clause-old : goal.returns-in-Some-clause-old
returns-in-Some-clause-old c =
    IsNormalTextOf-found c.args.self.now (view_text c.loop-j.above) c.in-Some.j
    (IsNormalText-view c.loop-j.above)
    (found (goal.at.returns-in-Some-clause-old c).In-Some)
