-- From which stage a run is ended.
use Rattle.std.specs.Prelude.{Option, Some}
use Rattle.relmove_run.specs.declared.ending.Direction.{Direction}
use Rattle.relmove_run.specs.declared.ending.Direction.TheVariants.{Resume, Undo}
use Rattle.relmove_journal.specs.declared.work.Stage.{Stage}
use Rattle.relmove_stages.specs.Stages.{stage_back}

-- the stage from which a run is ended: its own if it goes on the way it was going
abbrev pub stage_to_end : Direction → Stage → Option Stage
stage_to_end Resume stage = Some stage
stage_to_end Undo stage = stage_back stage
