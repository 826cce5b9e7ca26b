-- The directory is the parent. If there is no parent, the path is empty.
use Rattle.relative_path_places.proofs.PlacesLemmas.{IsPopped-parent}
use Rattle.relative_path_places.proofs.places.directory.Goals as goal

pub returns-clause-components : goal.returns-clause-components
returns-clause-components c =
    let popped = IsPopped-parent c.args.file c.parent.result c.parent.ensures.some c.parent.ensures.text in
    rw c.unwrap_or.ensures popped.same_components

pub returns-clause-text : goal.returns-clause-text
returns-clause-text c =
    rw c.unwrap_or.ensures (IsPopped-parent c.args.file c.parent.result c.parent.ensures.some c.parent.ensures.text)
