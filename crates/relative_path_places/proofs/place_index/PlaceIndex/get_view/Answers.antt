-- What the map has under a normal text is found for whatever leads where the text leads.
use Rattle.std.proofs.Common.{◌≡◌, rules}
use Rattle.std.specs.BTreeMap.{get_by_text}
use Rattle.relative_path_places.specs.Views.{view_text}
use Rattle.relative_path_places.proofs.NormalPathLemmas.{IsNormalTextOf-same}
use Rattle.relative_path_places.proofs.PlaceIndexLemmas.{within-found}
use Rattle.relative_path_places.proofs.place_index.PlaceIndex.get_view.Goals as goal

pub returns-clause-found : goal.returns-clause-found
returns-clause-found c = λ paths cs index same.
    let is : c.copied.result ≡ get_by_text c.args.self.now.by_text (view_text c.args.path) = search rules in
    rw is
    (index.found cs (view_text c.args.path)
    (IsNormalTextOf-same cs (view_text c.args.path) c.as_relative_path.ensures.normal same))

pub returns-clause-within : goal.returns-clause-within
returns-clause-within c =
    let is : c.copied.result ≡ get_by_text c.args.self.now.by_text (view_text c.args.path) = search rules in
    within-found c.args.self.now (view_text c.args.path) c.copied.result is
