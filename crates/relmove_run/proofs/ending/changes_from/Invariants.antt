use Rattle.relmove_stages.specs.Stages.{stages_left}
use Rattle.relmove_run.proofs.ending.changes_from.Given as goal

abbrev pub decreases-loop-next : goal.decreases-loop-next
decreases-loop-next l = stages_left l.at
