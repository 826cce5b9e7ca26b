-- A join has the components of both paths.
use Rattle.std.proofs.Common.{◌++◌, ◌∙◌, ap, sym, subst}
use Rattle.relative_path.specs.RelativePath.{path_text, path_components}
use Rattle.relative_path.specs.Steps.{components}
use Rattle.relative_path.specs.Walk.{LeadsInTurn}
use Rattle.relative_path.proofs.EditingLemmas.{components-pushed}
use Rattle.relative_path.proofs.WalkLemmas.{IsSame-refl, LeadsInTurn-same, StaysBelow-in_turn}
use Rattle.relative_path.proofs.NamingEditsLemmas.{file_name-joined, kept-joined}
use Rattle.relative_path.proofs.path.RelativePath.join.Goals as goal

pub returns-clause-components : goal.returns-clause-components
returns-clause-components c = ap components c.push_reserved.ensures.text ∙ components-pushed _ _
    ∙ ap (λ text. components text ++ path_components c.args.path) (c.from-joined.ensures.0 ∙ c.in_ok-copy_with_room.ensures.text)

pub returns-clause-in_turn : goal.returns-clause-in_turn
returns-clause-in_turn c =
    let front = path_components c.args.self in
    let rest = path_components c.args.path in
    subst (LeadsInTurn front rest) (sym (returns-clause-components c))
    (LeadsInTurn-same front rest (front ++ rest) (IsSame-refl (front ++ rest)))

pub returns-clause-stays_below : goal.returns-clause-stays_below
returns-clause-stays_below c = StaysBelow-in_turn _ _ _ (returns-clause-in_turn c)

pub returns-clause-file_name : goal.returns-clause-file_name
returns-clause-file_name c =
    file_name-joined (path_components c.args.self) _ (path_text c.args.path) (returns-clause-components c)

pub returns-clause-directory : goal.returns-clause-directory
returns-clause-directory c =
    kept-joined (path_components c.args.self) _ (path_text c.args.path) (returns-clause-components c)
