-- The view of the directory has the normal text of its components.
use Rattle.std.proofs.Common.{sym, subst}
use Rattle.std.proofs.lemmas.Result.{IfOk-weaker}
use Rattle.relative_path.specs.Steps.{components}
use Rattle.relative_path.specs.Normalizing.{IsNormalTextOf}
use Rattle.relative_path_places.specs.Places.{directory}
use Rattle.relative_path_places.specs.Views.{view_text}
use Rattle.relative_path_places.proofs.ForCallers.{IsNormalTextOf-view}
use Rattle.relative_path_moves.proofs.tree_moves.directory_of.Goals as goal

pub returns : goal.returns
returns c =
    let above = c.directory.result in
    let normal = subst (λ cs. IsNormalTextOf cs (view_text above)) c.directory.ensures (IsNormalTextOf-view above) in
    IfOk-weaker c.of_view.result _ _
    (λ copy is. subst (IsNormalTextOf (directory (components c.args.file.now))) (sym is) normal) c.of_view.ensures
