-- Some path leads to where no fewer `..` lead.
use Rattle.std.proofs.lemmas.Bool.{true_from_ne_false}
use Rattle.relative_path.specs.RelativePath.{path_components}
use Rattle.relative_path.specs.Normalizing.{IsNormalForm}
use Rattle.relative_path.proofs.ForCallers.{IsReachable-climb, IsSame-refl}
use Rattle.relative_path_tests.proofs.tests.calling.link_between.Goals as goal

pub returns : goal.returns
returns c = λ from_normal to_normal level.
    let from = path_components c.args.from in
    let to = path_components c.args.to in
    let from_form : IsNormalForm from from = record { normal = from_normal; same = IsSame-refl from } in
    let to_form : IsNormalForm to to = record { normal = to_normal; same = IsSame-refl to } in
    true_from_ne_false _ (λ none.
    c.in_ok-found.ensures.none.0 none ((IsReachable-climb from to from to from_form to_form).1 level))
