use Rattle.relmove_stages.specs.Runs.{unknown_trees}
use Rattle.relmove_stages_tests.proofs.tests.trial.carry_out_trial.Given as goal

abbrev pub ghost-carry_out : goal.ghost-carry_out
ghost-carry_out a = unknown_trees
