use Rattle.std.proofs.Common.{◌↔◌}
use Rattle.relmove_stages.specs.Stages.{ComesTo, stages_left}
use Rattle.relmove_stages_disk.proofs.disk.comes_to.Given as goal

-- the run comes to the stage from here
abbrev pub invariant-loop-stage : goal.invariant-loop-stage
invariant-loop-stage l = ComesTo l.fn.first l.stage ↔ ComesTo l.at l.stage

abbrev pub decreases-loop-stage : goal.decreases-loop-stage
decreases-loop-stage l = stages_left l.at
