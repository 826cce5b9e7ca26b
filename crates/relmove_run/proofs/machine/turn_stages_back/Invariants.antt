use Rattle.relmove_stages.specs.Runs.{unknown_trees}
use Rattle.relmove_run.proofs.machine.turn_stages_back.Given as goal

abbrev pub ghost-turn_back : goal.ghost-turn_back
ghost-turn_back g a = unknown_trees
