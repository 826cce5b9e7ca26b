use Rattle.std.proofs.Common.{◌≡◌, ◌-◌, ℕ, Some, IsTrue, length}
use Rattle.relmove_stages.specs.Runs.{Guards, IsOnTheWayFrom, IsStageReached, KeepsDone}
use Rattle.relmove_stages.specs.Stages.{stage_actions}
use Rattle.relmove_stages.specs.States.{journal_of}
use Rattle.relmove_stages.proofs.MachineLemmas.{IsStagePast}
use Rattle.relmove_stages.proofs.machine.do_actions.Given as goal

-- the first actions are done, and maybe more
abbrev pub invariant-loop-action : goal.invariant-loop-action
invariant-loop-action g l =
    let s = g.E.Executor in
    record {
      guards : IsTrue (s.state l.executor).is_clean
          → Guards (IsOnTheWayFrom l.work g.trees l.stage) (s.state l.initial.executor) (s.state l.executor);
      journal : IsTrue (s.state l.executor).is_clean → (s.state l.executor).disk.journal ≡ Some (journal_of l.work l.stage);
      prepared : IsTrue (s.state l.executor).is_clean → (s.state l.executor).prepared ≡ Some (journal_of l.work l.stage);
      reached : IsTrue (s.state l.executor).is_clean
          → IsStageReached l.work g.trees l.stage l.number (s.state l.executor).disk.tree;
      keeps : IsTrue (s.state l.executor).is_clean
          → Guards (KeepsDone l.work g.trees l.stage (s.state l.initial.executor).disk.tree) (s.state l.initial.executor)
          (s.state l.executor);
      past : IsTrue (s.state l.executor).is_clean → (k : ℕ)
          → IsStageReached l.work g.trees l.stage k (s.state l.initial.executor).disk.tree
          → IsStagePast l.work g.trees l.stage k l.number (s.state l.executor).disk.tree;
    }

abbrev pub decreases-loop-action : goal.decreases-loop-action
decreases-loop-action g l = length (stage_actions l.work l.stage) - l.number
