use Rattle.std.proofs.Common.{subst, sym}
use Rattle.relative_path.specs.RelativePath.{path_components}
use Rattle.relative_path.specs.Normalizing.{IsNormalTextOf}
use Rattle.relative_path_bench.proofs.RelatingLemmas.{same_ends, same_texts}
use Rattle.relative_path_bench.proofs.relating.same_law.Goals as goal

pub returns-clause-texts : goal.returns-clause-texts
returns-clause-texts c =
    let cs = path_components c.args.path in
    let ds = path_components c.args.other in
    let normal = subst (λ b. IsNormalTextOf cs b.text) (sym c.normal.view_is) c.in_ok-normal.ensures.normal_form in
    let texts = same_texts cs ds _ _ normal c.in_ok-other_normal.ensures.normal_form in
    let ends = same_ends cs ds in
    (λ same. ends.0 (texts.0 same), λ alike. texts.1 (ends.1 alike))

pub returns-clause-none : goal.returns-clause-none
returns-clause-none c =
    let ends = same_ends (path_components c.args.path) (path_components c.args.other) in
    let none = c.in_ok-leads_apart.ensures.none in
    (λ same. ends.0 (none.0 same), λ alike. none.1 (ends.1 alike))
