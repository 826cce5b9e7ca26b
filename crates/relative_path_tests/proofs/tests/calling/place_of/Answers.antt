-- The normal text of a path with a place from the top has the place's names.
use Rattle.std.proofs.Common.{map, ap, ◌∙◌}
use Rattle.std.proofs.lemmas.List.{map_push}
use Rattle.relative_path.specs.Steps.{name}
use Rattle.relative_path.specs.Editing.{kept}
use Rattle.relative_path.specs.Naming.{last_name}
use Rattle.relative_path.proofs.ForCallers.{components-place, kept-name, last_name-name}
use Rattle.relative_path_tests.proofs.tests.calling.place_of.Goals as goal

pub returns-clause-file_name : goal.returns-clause-file_name
returns-clause-file_name c = λ place n is.
    ap last_name (components-place c.in_ok-normal.ensures.normal_form is ∙ map_push name place n)
    ∙ last_name-name (map name place) n

pub returns-clause-directory : goal.returns-clause-directory
returns-clause-directory c = λ place n is.
    ap kept (components-place c.in_ok-normal.ensures.normal_form is ∙ map_push name place n)
    ∙ kept-name (map name place) n
