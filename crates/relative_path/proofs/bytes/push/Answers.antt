-- A push adds the components of the path.
use Rattle.std.proofs.Common.{◌++◌, ◌∙◌, ap, subst, sym, take}
use Rattle.relative_path.specs.RelativePath.{path_text, path_components}
use Rattle.relative_path.specs.Steps.{components}
use Rattle.relative_path.specs.Walk.{LeadsInTurn}
use Rattle.relative_path.proofs.WalkLemmas.{IsSame-refl, LeadsInTurn-same, StaysBelow-in_turn}
use Rattle.relative_path.proofs.EditingLemmas.{components-pushed}
use Rattle.relative_path.proofs.NamingEditsLemmas.{file_name-joined, kept-joined}
use Rattle.relative_path.proofs.bytes.push.Goals as goal

pub returns-clause-components : goal.returns-clause-components
returns-clause-components c =
    ap components c.push_within.ensures.text ∙ components-pushed _ _
    ∙ ap (λ text. components (take c.args.len c.args.out.now) ++ components text) c.as_str-2.ensures

pub returns-clause-stays_below : goal.returns-clause-stays_below
returns-clause-stays_below c =
    let front = components (take c.args.len c.args.out.now) in
    let path = path_components c.args.path in
    let same = LeadsInTurn-same front path (front ++ path) (IsSame-refl (front ++ path)) in
    StaysBelow-in_turn front path _ (subst (LeadsInTurn front path) (sym (returns-clause-components c)) same)

pub returns-clause-file_name : goal.returns-clause-file_name
returns-clause-file_name c =
    file_name-joined (components (take c.args.len c.args.out.now)) _ (path_text c.args.path) (returns-clause-components c)

pub returns-clause-directory : goal.returns-clause-directory
returns-clause-directory c =
    kept-joined (components (take c.args.len c.args.out.now)) _ (path_text c.args.path) (returns-clause-components c)
