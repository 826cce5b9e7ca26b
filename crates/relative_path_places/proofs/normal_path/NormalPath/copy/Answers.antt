-- The copy has the text of the view.
use Rattle.std.proofs.Common.{sym, subst}
use Rattle.std.proofs.lemmas.Result.{IfOk-weaker}
use Rattle.relative_path.specs.Steps.{components}
use Rattle.relative_path.specs.Normalizing.{IsNormalTextOf}
use Rattle.relative_path.proofs.ForCallers.{IsSame-refl}
use Rattle.relative_path_places.proofs.NormalPathLemmas.{IsNormalTextOf-same}
use Rattle.relative_path_places.proofs.normal_path.NormalPath.copy.Goals as goal

pub returns-clause-normal : goal.returns-clause-normal
returns-clause-normal c =
    let normal = IsNormalTextOf-same (components c.args.self.now) c.args.self.now c.view.ensures.normal
    (IsSame-refl (components c.args.self.now)) in
    IfOk-weaker c.of_view.result _ _
    (λ copy is. subst (IsNormalTextOf (components c.args.self.now)) (sym (rw c.view.ensures.text at is)) normal)
    c.of_view.ensures
