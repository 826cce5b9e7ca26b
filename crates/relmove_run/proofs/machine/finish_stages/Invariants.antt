use Rattle.relmove_stages.specs.Runs.{unknown_trees}
use Rattle.relmove_run.proofs.machine.finish_stages.Given as goal

abbrev pub ghost-finish : goal.ghost-finish
ghost-finish g a = unknown_trees
