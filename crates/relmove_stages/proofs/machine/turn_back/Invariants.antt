use Rattle.relmove_stages.proofs.machine.turn_back.Given as goal

abbrev pub ghost-finish : goal.ghost-finish
ghost-finish g a = g.trees
