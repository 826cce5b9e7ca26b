use Rattle.relmove_work.specs.Leading.{trees_of}
use Rattle.relmove_planned.proofs.run.carry_out_plan.Given as goal

abbrev pub ghost-carry_out : goal.ghost-carry_out
ghost-carry_out g a = trees_of a.work.now (g.E.Initiator.texts a.executor.now) (g.E.Executor.state a.executor.now).disk.tree
