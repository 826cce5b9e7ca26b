-- A push adds the components of the path.
use Rattle.std.proofs.Common.{◌++◌, ◌∙◌, ap, subst, sym}
use Rattle.relative_path.specs.RelativePath.{path_text, path_components}
use Rattle.relative_path.specs.Steps.{components}
use Rattle.relative_path.specs.Walk.{LeadsInTurn}
use Rattle.relative_path.proofs.WalkLemmas.{IsSame-refl, LeadsInTurn-same, StaysBelow-in_turn}
use Rattle.relative_path.proofs.EditingLemmas.{components-pushed}
use Rattle.relative_path.proofs.NamingEditsLemmas.{file_name-joined, kept-joined}
use Rattle.relative_path.proofs.buf.RelativePathBuf.push.Goals as goal

pub returns-clause-components : goal.returns-clause-components
returns-clause-components c =
    ap components c.push_reserved.ensures.text ∙ components-pushed _ _
    ∙ ap (λ text. components text ++ path_components c.args.path) c.in_ok-reserve_to.ensures.text

pub returns-clause-stays_below : goal.returns-clause-stays_below
returns-clause-stays_below c =
    let front = components c.args.self.now.text in
    let path = path_components c.args.path in
    let same = LeadsInTurn-same front path (front ++ path) (IsSame-refl (front ++ path)) in
    StaysBelow-in_turn front path _ (subst (LeadsInTurn front path) (sym (returns-clause-components c)) same)

pub returns-clause-file_name : goal.returns-clause-file_name
returns-clause-file_name c =
    file_name-joined (components c.args.self.now.text) _ (path_text c.args.path) (returns-clause-components c)

pub returns-clause-directory : goal.returns-clause-directory
returns-clause-directory c =
    kept-joined (components c.args.self.now.text) _ (path_text c.args.path) (returns-clause-components c)
