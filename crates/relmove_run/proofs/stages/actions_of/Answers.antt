use Rattle.std.proofs.Common.{arith, sym}
use Rattle.std.proofs.lemmas.Option.{slice_get_within}
use Rattle.relmove_stages.specs.StageActions.{action_of}
use Rattle.relmove_stages.specs.Stages.{stage_actions}
use Rattle.relmove_run.proofs.stages.actions_of.Goals as goal

pub loop-action-smaller : goal.loop-action-smaller
loop-action-smaller c =
    let within =
    slice_get_within (stage_actions c.args.work.now c.args.stage) c.loop-action.number (action_of c.in-Some.action)
    (sym c.in-Some.ensures.listed) in
    omega (arith, within)
