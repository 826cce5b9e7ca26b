-- `..` for each name that is left of the source, and then the names that are left of the target.
use Rattle.std.proofs.Common.{◌++◌, ◌∙◌, ap, replicate}
use Rattle.relative_path.specs.Steps.{up}
use Rattle.relative_path.specs.RelativePath.{path_components}
use Rattle.relative_path_places.proofs.WayLemmas.{spelled-empty, components-empty, IsShortestText-apart}
use Rattle.relative_path_places.proofs.way.way_between.Goals as goal

pub push_climb-requires : goal.push_climb-requires
push_climb-requires c = spelled-empty c.in_ok-way.way.text c.in_ok-way.ensures.empty

pub returns : goal.returns
returns c =
    let above = path_components c.past_common.result.0 in
    let below = path_components c.past_common.result.1 in
    IsShortestText-apart (path_components c.args.from) (path_components c.args.to) above below
    c.push_components.new.way.text c.requires.from c.requires.to c.past_common.ensures c.in_ok-push_components.ensures.spelled
    (c.in_ok-push_components.ensures.components
    ∙ ap (λ cs. cs ++ below)
    (c.in_ok-push_climb.ensures.components
    ∙ ap (λ cs. cs ++ replicate c.component_count-climb.result up) (components-empty c.in_ok-way.way.text c.in_ok-way.ensures.empty)
    ∙ ap (λ k. replicate k up) c.component_count-climb.ensures))
