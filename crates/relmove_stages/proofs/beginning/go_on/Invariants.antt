use Rattle.relmove_stages.proofs.beginning.go_on.Given as goal

abbrev pub ghost-erase : goal.ghost-erase
ghost-erase g a = g.trees

abbrev pub ghost-finish : goal.ghost-finish
ghost-finish g a = g.trees
