use Rattle.std.proofs.Common.{◌-◌, length}
use Rattle.relmove_stages.specs.Stages.{stage_actions}
use Rattle.relmove_run.proofs.stages.actions_of.Given as goal

abbrev pub decreases-loop-action : goal.decreases-loop-action
decreases-loop-action l = length (stage_actions l.work l.stage) - l.number
