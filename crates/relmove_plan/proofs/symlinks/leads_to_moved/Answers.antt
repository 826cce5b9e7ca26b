-- The normal path leads where the link's directory and then its path lead.
use Rattle.std.proofs.Common.{List, IsTrue, ◌↔◌, ◌++◌, ap, subst, ◌∙◌}
use Rattle.std.proofs.lemmas.Result.{IfOk-weaker}
use Rattle.relative_path.proofs.ForCallers.{IsSame-sym, IsSame-trans}
use Rattle.relative_path.specs.RelativePath.{path_components}
use Rattle.relative_path.specs.Steps.{Step, components}
use Rattle.relative_path.specs.Walk.{IsSame}
use Rattle.relative_path_moves.proofs.ForCallers.{AtTreePath-same}
use Rattle.relative_path_moves.specs.Moves.{Move}
use Rattle.relative_path_places.specs.Places.{directory}
use Rattle.relmove_plan.specs.Symlinks.{GetsElsewhere}
use Rattle.relmove_plan.proofs.symlinks.leads_to_moved.Goals as goal

-- paths that lead to the same get elsewhere together
elsewhere-same : (moves : List Move) (cs ds : List Step) → IsSame cs ds → GetsElsewhere moves cs → GetsElsewhere moves ds
elsewhere-same moves cs ds same =
    AtTreePath-same moves cs ds (λ now. ¬ IsSame now cs) (λ now. ¬ IsSame now ds) same
    (λ now then same_now elsewhere is. elsewhere (IsSame-trans (IsSame-trans same_now is) (IsSame-sym same)))

pub returns-in_ok-meant-in-Some : goal.returns-in_ok-meant-in-Some
returns-in_ok-meant-in-Some c =
    let moves = c.args.moves.now in
    let meant = components c.in_ok-meant-in-Some.meant in
    let path = path_components c.in-Some.path in
    let before = directory (components c.args.symlink.now) in
    let is_before = ap components c.as_relative_path.ensures.text ∙ c.directory.ensures in
    let same = subst (λ cs. IsSame (cs ++ path) meant) is_before c.in_ok-meant-in-Some.ensures.same in
    rw c.in-Some.is
    (IfOk-weaker c.gets_elsewhere.result (λ moved. IsTrue moved ↔ GetsElsewhere moves meant)
    (λ leads. IsTrue leads ↔ GetsElsewhere moves (before ++ path))
    (λ moved is. (
      λ holds. elsewhere-same moves meant (before ++ path) (IsSame-sym same) (is.0 holds),
      λ elsewhere. is.1 (elsewhere-same moves (before ++ path) meant same elsewhere),
    )) c.gets_elsewhere.ensures)
