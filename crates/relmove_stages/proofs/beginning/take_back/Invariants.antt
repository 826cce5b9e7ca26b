use Rattle.relmove_stages.proofs.beginning.take_back.Given as goal

abbrev pub ghost-finish : goal.ghost-finish
ghost-finish g a = g.trees
