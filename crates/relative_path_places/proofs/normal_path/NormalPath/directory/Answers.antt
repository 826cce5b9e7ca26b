-- The directory is the parent. If there is no parent, the path is empty.
use Rattle.std.proofs.Common.{ap, ◌∙◌}
use Rattle.relative_path.specs.Steps.{components}
use Rattle.relative_path_places.specs.Places.{directory}
use Rattle.relative_path_places.specs.Views.{view_components}
use Rattle.relative_path_places.proofs.PlacesLemmas.{directory-parent}
use Rattle.relative_path_places.proofs.normal_path.NormalPath.directory.Goals as goal

pub returns : goal.returns
returns c =
    ap view_components c.unwrap_or.ensures
    ∙ directory-parent c.view-path.result c.parent.result c.parent.ensures.none c.parent.ensures.components
    ∙ ap (λ text. directory (components text)) c.view-path.ensures.text
