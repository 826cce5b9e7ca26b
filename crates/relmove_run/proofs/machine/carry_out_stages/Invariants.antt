use Rattle.relmove_stages.specs.Runs.{unknown_trees}
use Rattle.relmove_run.proofs.machine.carry_out_stages.Given as goal

abbrev pub ghost-carry_out : goal.ghost-carry_out
ghost-carry_out g a = unknown_trees
