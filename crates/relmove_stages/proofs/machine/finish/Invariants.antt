use Rattle.std.proofs.Common.{◌≡◌, Some, IsTrue}
use Rattle.relmove_stages.specs.Runs.{Guards, IsOnTheWayFrom, IsStageDone, KeepsDone}
use Rattle.relmove_stages.specs.Stages.{ComesTo, stages_left}
use Rattle.relmove_stages.specs.States.{journal_of}
use Rattle.relmove_stages.proofs.machine.finish.Given as goal

abbrev pub ghost-do_stage : goal.ghost-do_stage
ghost-do_stage g a = g.trees

-- the actions of the stage are done, and it is the first stage or a later one
abbrev pub invariant-loop-next : goal.invariant-loop-next
invariant-loop-next g l =
    let s = g.E.Executor in
    record {
      guards : IsTrue (s.state l.executor).is_clean
          → Guards (IsOnTheWayFrom l.work g.trees l.fn.stage) (s.state l.fn.executor) (s.state l.executor);
      journal : IsTrue (s.state l.executor).is_clean → (s.state l.executor).disk.journal ≡ Some (journal_of l.work l.at);
      done : IsTrue (s.state l.executor).is_clean
          → IsStageDone l.work g.trees l.at (s.state l.executor).disk.tree;
      completed : IsTrue (s.state l.executor).is_clean → (s.state l.executor).completed ≡ Some (journal_of l.work l.at);
      keeps : IsTrue (s.state l.executor).is_clean
          → Guards (KeepsDone l.work g.trees l.fn.stage (s.state l.fn.executor).disk.tree) (s.state l.fn.executor)
          (s.state l.executor);
      comes : ComesTo l.fn.stage l.at;
    }

abbrev pub decreases-loop-next : goal.decreases-loop-next
decreases-loop-next g l = stages_left l.at
