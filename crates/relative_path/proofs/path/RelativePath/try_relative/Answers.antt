use Rattle.std.proofs.Common.{ap, ◌∙◌, refl, true≢false}
use Rattle.relative_path.specs.RelativePath.{path_components}
use Rattle.relative_path.specs.Steps.{components}
use Rattle.relative_path.proofs.WalkLemmas.{IsSame-refl, IsSame-sym}
use Rattle.relative_path.proofs.RelatingLemmas.{IsReachable-below, IsReachable-same, IsShortest-same, IsShortestText-same, IsShortestText-spelled}
use Rattle.relative_path.proofs.path.RelativePath.try_relative.Goals as goal

pub returns-in_default-clause-none : goal.returns-in_default-clause-none
returns-in_default-clause-none c =
    let from = c.in_ok-from.ensures.normal_form.same in
    let to = c.in_ok-to.ensures.normal_form.same in (
      λ _ reachable. c.in_default.ensures.none refl (IsReachable-same _ _ _ _ from to reachable),
      λ _. refl,
    )

pub returns-in_default-clause-below : goal.returns-in_default-clause-below
returns-in_default-clause-below c = λ top from to.
    absurd ((returns-in_default-clause-none c).0 refl (IsReachable-below top _ _ from to))

pub returns-clause-none : goal.returns-clause-none
returns-clause-none c =
    let from = IsSame-sym _ _ c.in_ok-from.ensures.normal_form.same in
    let to = IsSame-sym _ _ c.in_ok-to.ensures.normal_form.same in
    let shortest = IsShortest-same _ _ _ _ _ from to c.in-Some.ensures.shortest in
    (λ none. absurd (true≢false none), λ unreachable. absurd (unreachable (_, shortest.leads)))

pub returns-clause-shortest : goal.returns-clause-shortest
returns-clause-shortest c =
    let from = IsSame-sym _ _ c.in_ok-from.ensures.normal_form.same in
    let to = IsSame-sym _ _ c.in_ok-to.ensures.normal_form.same in
    let shortest = IsShortest-same _ _ _ _ _ from to c.in-Some.ensures.shortest in
    let text = c.into.ensures.0 in
    let spelled = c.in_ok-text.ensures in
    IsShortestText-spelled _ _ _ _ (ap components text ∙ spelled.components) (text ∙ spelled.text) shortest

pub returns-clause-shortest_from : goal.returns-clause-shortest_from
returns-clause-shortest_from c = λ from normal.
    let to = path_components c.args.to in
    IsShortestText-same (path_components c.args.self) from to to _ normal.same (IsSame-refl to) (returns-clause-shortest c)

pub returns-clause-shortest_to : goal.returns-clause-shortest_to
returns-clause-shortest_to c = λ target normal.
    let from = path_components c.args.self in
    IsShortestText-same from from (path_components c.args.to) target _ (IsSame-refl from) normal.same (returns-clause-shortest c)
