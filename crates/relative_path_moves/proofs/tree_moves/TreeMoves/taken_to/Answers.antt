-- The nearest move takes the file along. If no move does, it stays.
use Rattle.std.proofs.Common.{map, IsTrue, is_some, subst, rules}
use Rattle.relative_path.specs.Steps.{name}
use Rattle.relative_path.specs.Normalizing.{IsNormalTextOf}
use Rattle.relative_path_places.specs.Views.{view_text, view_components, name_components}
use Rattle.relative_path_places.proofs.ForCallers.{IsNormalTextOf-view}
use Rattle.relative_path_moves.proofs.TreeMovesLemmas.{IsLeftInPlace-kept, IsTaken-found, AreNames-map, within-nearest, taken-path, written_move-new}
use Rattle.relative_path_moves.proofs.tree_moves.TreeMoves.taken_to.Goals as goal

pub returns-in_default-clause-path : goal.returns-in_default-clause-path
returns-in_default-clause-path c = λ place normal.
    IsLeftInPlace-kept c.args.self.now place (view_text c.args.file) normal (rw c.in_default.is at c.nearest.ensures.none)

pub unwrap-requires : goal.unwrap-requires
unwrap-requires c =
    let has : IsTrue (is_some c.names.result) = search rules in
    let file = c.args.file in
    let taken = IsTaken-found c.args.self.now (view_components file) (view_text file) (view_text c.in-Some.old) c.in-Some.j
    (IsNormalTextOf-view file) (c.names.ensures.some.0 has) c.in-Some.ensures.old c.in-Some.ensures.nearest in
    c.below-below.ensures.some.1 (map name taken.below, AreNames-map taken.below, taken.split)

pub returns-clause-path : goal.returns-clause-path
returns-clause-path c = λ place normal.
    let has : IsTrue (is_some c.names.result) = search rules in
    let file = c.args.file in
    let nearest = c.in-Some.ensures.nearest in
    let taken = IsTaken-found c.args.self.now place (view_text file) (view_text c.in-Some.old) c.in-Some.j normal
    (c.names.ensures.some.0 has) c.in-Some.ensures.old nearest in
    let split = rw c.unwrap.ensures at c.below-below.ensures.components in
    let within = within-nearest c.args.self.now (view_components file) c.in-Some.j nearest in
    taken-path c.args.self.now place (view_text file) (view_text c.in-Some.old) c.normal-new.result.now c.in_ok-now.now
    c.in-Some.j (name_components c.unwrap.result) taken split
    (subst (λ new. IsNormalTextOf new c.normal-new.result.now)
    (written_move-new c.args.self.now _ c.in-Some.j _ _ c.self.view_is within c.index.ensures) c.normal-new.ensures)
    c.in_ok-now.ensures

pub returns-in_default-clause-own : goal.returns-in_default-clause-own
returns-in_default-clause-own c =
    returns-in_default-clause-path c (view_components c.args.file) (IsNormalTextOf-view c.args.file)

pub returns-clause-own : goal.returns-clause-own
returns-clause-own c = returns-clause-path c (view_components c.args.file) (IsNormalTextOf-view c.args.file)
