use Rattle.relmove_stages.specs.Runs.{unknown_trees}
use Rattle.relmove_stages_tests.proofs.tests.trial.finish_trial.Given as goal

abbrev pub ghost-finish : goal.ghost-finish
ghost-finish a = unknown_trees
