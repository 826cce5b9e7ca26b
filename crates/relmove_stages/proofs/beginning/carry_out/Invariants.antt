use Rattle.relmove_stages.proofs.beginning.carry_out.Given as goal

abbrev pub ghost-end_at_once : goal.ghost-end_at_once
ghost-end_at_once g a = g.trees

abbrev pub ghost-write_texts : goal.ghost-write_texts
ghost-write_texts g a = g.trees

abbrev pub ghost-take_back : goal.ghost-take_back
ghost-take_back g a = g.trees

abbrev pub ghost-go_on : goal.ghost-go_on
ghost-go_on g a = g.trees
