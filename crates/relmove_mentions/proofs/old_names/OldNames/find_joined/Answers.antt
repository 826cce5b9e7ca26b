-- The normal path that was looked up leads where the directory and then the path lead.
use Rattle.std.proofs.Common.{◌≡◌, ◌≤◌, ◌<◌, ◌++◌, Some, rules}
use Rattle.std.specs.Prelude.{IfNone, IfSome, MatchOption, ⊤}
use Rattle.std.specs.BTreeMap.{get_by_text}
use Rattle.relative_path.specs.RelativePath.{path_components}
use Rattle.relative_path_places.specs.Views.{view_text}
use Rattle.relmove_mentions.specs.Spans.{others_in}
use Rattle.relmove_mentions.proofs.OldNamesLemmas.{Finds-got}
use Rattle.relmove_mentions.proofs.old_names.OldNames.find_joined.Goals as goal

pub returns : goal.returns
returns c = λ olds has.
    let set = c.args.self.now in
    let steps = path_components c.args.directory ++ path_components c.args.path in
    let is : c.as_str.result.now ≡ c.in_ok-place.place.text = search rules in
    let some : IfSome c.get.result
    (λ path. (get_by_text set.by_text c.as_str.result.now ≡ Some path) × (c.args.others ≤ others_in (view_text path))) =
    c.get.ensures.some in
    let none : IfNone c.get.result
    (MatchOption (get_by_text set.by_text c.as_str.result.now) ⊤ (λ path. others_in (view_text path) < c.args.others)) =
    c.get.ensures.none in
    Finds-got olds set steps c.in_ok-place.place.text c.args.others c.get.result has c.in_ok-place.ensures.normal_form
    (rw is at some) (rw is at none)
