-- What holds of the normal text of where the file is holds of where it is.
use Rattle.std.proofs.Common.{[], List, ◌∙◌, inl, inr, refl}
use Rattle.relative_path.specs.Steps.{Step, components}
use Rattle.relative_path.specs.Normalizing.{IsNormalTextOf}
use Rattle.relative_path.proofs.ForCallers.{IsSame-refl, IsSame-sym, IsSame-trans, IsReachable-same, IsShortestText-same}
use Rattle.relative_path_moves.specs.TreeMoves.{AtTreePath}
use Rattle.relative_path_moves.proofs.TreeMovesLemmas.{IfOk-all, IfSome-all, AtTreePath-text}
use Rattle.relative_path_moves.proofs.tree_moves.TreeMoves.link_to_file.Goals as goal
use Rattle.relative_path_moves.proofs.tree_moves.TreeMoves.link_to_file.Goals.{In-Some, In-None}

-- where the file is after the moves
taken : (c : In-Some) → (from : List Step) → IsNormalTextOf from c.args.file.now
    → AtTreePath c.args.self.now from (λ target. IsNormalTextOf target c.in-Some.now)
taken c from normal =
    let (target, is, at) = (rw (c.in-Some.is, c.view.ensures.text) at c.in_ok-now.ensures.path) from normal in
    (target, inl is, at)

left : (c : In-None) → (from : List Step) → IsNormalTextOf from c.args.file.now
    → AtTreePath c.args.self.now from (λ target. IsNormalTextOf target c.args.file.now)
left c from normal = (from, inr ((rw (c.in-None.is, c.view.ensures.text) at c.in_ok-now.ensures.path) from normal, refl), normal)

pub returns-in-Some-clause-stays : goal.returns-in-Some-clause-stays
returns-in-Some-clause-stays c =
    IfOk-all c.link_from.result
    (λ found is none from normal.
    AtTreePath-text c.args.self.now from c.in-Some.now (taken (goal.at.returns-in-Some-clause-stays c).In-Some from normal)
    (λ target same. IsSame-trans (is none) (IsSame-sym same)))
    c.link_from.ensures.stays

pub returns-in-Some-clause-shortest : goal.returns-in-Some-clause-shortest
returns-in-Some-clause-shortest c =
    let start = components c.args.directory.now in
    IfOk-all c.link_from.result
    (λ found some.
    IfSome-all found
    (λ way is from normal.
    AtTreePath-text c.args.self.now from c.in-Some.now (taken (goal.at.returns-in-Some-clause-shortest c).In-Some from normal)
    (λ target same. (
      λ leads. is.0 (IsSame-trans leads same),
      (
        λ none. is.1.0 ((IsSame-sym same).everywhere [] ∙ none),
        IsShortestText-same (IsSame-refl start) (IsSame-sym same) is.1.1,
      ),
    )))
    some)
    c.link_from.ensures.shortest

pub returns-in-Some-clause-no_path : goal.returns-in-Some-clause-no_path
returns-in-Some-clause-no_path c = λ error from normal.
    let start = components c.args.directory.now in
    let is = c.link_from.ensures.no_path error in
    AtTreePath-text c.args.self.now from c.in-Some.now (taken (goal.at.returns-in-Some-clause-no_path c).In-Some from normal)
    (λ target same. (
      λ leads. is.0 (IsSame-trans leads same),
      (
        λ none. is.1.0 ((IsSame-sym same).everywhere [] ∙ none),
        λ reached. is.1.1 (IsReachable-same (IsSame-refl start) same reached),
      ),
    ))

pub returns-in-None-clause-stays : goal.returns-in-None-clause-stays
returns-in-None-clause-stays c =
    IfOk-all c.link_from-in-None.result
    (λ found is none from normal.
    AtTreePath-text c.args.self.now from c.args.file.now (left (goal.at.returns-in-None-clause-stays c).In-None from normal)
    (λ target same. IsSame-trans (is none) (IsSame-sym same)))
    c.link_from-in-None.ensures.stays

pub returns-in-None-clause-shortest : goal.returns-in-None-clause-shortest
returns-in-None-clause-shortest c =
    let start = components c.args.directory.now in
    IfOk-all c.link_from-in-None.result
    (λ found some.
    IfSome-all found
    (λ way is from normal.
    AtTreePath-text c.args.self.now from c.args.file.now (left (goal.at.returns-in-None-clause-shortest c).In-None from normal)
    (λ target same. (
      λ leads. is.0 (IsSame-trans leads same),
      (
        λ none. is.1.0 ((IsSame-sym same).everywhere [] ∙ none),
        IsShortestText-same (IsSame-refl start) (IsSame-sym same) is.1.1,
      ),
    )))
    some)
    c.link_from-in-None.ensures.shortest
