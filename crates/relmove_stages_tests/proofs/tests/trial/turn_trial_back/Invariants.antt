use Rattle.relmove_stages.specs.Runs.{unknown_trees}
use Rattle.relmove_stages_tests.proofs.tests.trial.turn_trial_back.Given as goal

abbrev pub ghost-turn_back : goal.ghost-turn_back
ghost-turn_back a = unknown_trees
