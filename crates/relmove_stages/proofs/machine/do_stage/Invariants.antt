use Rattle.relmove_stages.proofs.machine.do_stage.Given as goal

abbrev pub ghost-do_actions : goal.ghost-do_actions
ghost-do_actions g a = g.trees
