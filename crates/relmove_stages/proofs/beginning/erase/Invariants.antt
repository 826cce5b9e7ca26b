use Rattle.relmove_stages.proofs.beginning.erase.Given as goal

abbrev pub ghost-take_back : goal.ghost-take_back
ghost-take_back g a = g.trees
