use Rattle.std.proofs.Common.{sym, ◌∙◌}
use Rattle.relative_path.specs.RelativePath.{path_components}
use Rattle.relative_path.proofs.ClimbingLemmas.{climb_after-nil, climb_after-normal_form, IsSome-walk, LeadsBelow-level}
use Rattle.relative_path.proofs.path.RelativePath.climb.Goals as goal

pub returns-clause-place : goal.returns-clause-place
returns-clause-place c =
    let all = climb_after-nil _ c.in-None.ensures.steps.0 c.loop-component.invariant.comes_to in
    rw all (IsSome-walk (path_components c.args.self))

pub returns-clause-normal : goal.returns-clause-normal
returns-clause-normal c =
    let all = climb_after-nil _ c.in-None.ensures.steps.0 c.loop-component.invariant.comes_to in
    λ steps form. all ∙ climb_after-normal_form (path_components c.args.self) steps form

pub returns-clause-below : goal.returns-clause-below
returns-clause-below c =
    let all = climb_after-nil _ c.in-None.ensures.steps.0 c.loop-component.invariant.comes_to in
    λ level. LeadsBelow-level (path_components c.args.self) (sym all ∙ level)
