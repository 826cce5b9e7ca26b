use Rattle.std.proofs.Common.{IsTrue, Some, sym, ◌∙◌, ◌≡◌, ◌-◌, ◌^◌}
use Rattle.std.specs.Prelude.{nat_lt}
use Rattle.relmove_stages_disk.proofs.DisksLemmas.{has_cause, no_less, ok_synced, ok_then, ok_to, one_call, refused_if}
use Rattle.relmove_stages.specs.States.{CanComeTo}
use Rattle.relmove_stages_disk.specs.Disks.{state_of}
use Rattle.relmove_stages.specs.States.{journal_of}
use Rattle.relmove_stages_disk.specs.Journals.{said}
use Rattle.relmove_stages_disk.proofs.disk.MemoryDiskExecutor.enter.Goals as goal

pub returns-clause-entered : goal.returns-clause-entered
returns-clause-entered c =
    ok_then (IsTrue (nat_lt c.counted.new.faults (2 ^ 64 - 1)))
    (said c.try_enter-outcome.new.now.journal ≡ Some (journal_of c.args.work.now c.args.stage))
    c.try_enter-outcome.result c.counted.result c.counted.ensures.outcome c.try_enter-outcome.ensures.put

pub returns-clause-outcome : goal.returns-clause-outcome
returns-clause-outcome c = λ clean. c.try_enter-outcome.ensures.outcome

pub returns-clause-tree : goal.returns-clause-tree
returns-clause-tree c = λ clean. c.try_enter-outcome.ensures.tree

pub returns-clause-crash : goal.returns-clause-crash
returns-clause-crash c =
    one_call c.args.self.now
    (record c.args.self.now {
      now = c.try_enter-outcome.new.now;
      past = c.try_enter-outcome.new.past;
      durable = c.try_enter-outcome.new.durable;
      failure = c.next_failure-failing.new.failure;
      faults = c.counted.new.faults;
    }) c.try_enter-outcome.ensures.moments c.try_enter-outcome.ensures.durable
    (no_less c.counted.result c.args.self.now.faults c.counted.new.faults c.counted.ensures.ok c.counted.ensures.err)

pub returns-clause-cause : goal.returns-clause-cause
returns-clause-cause c =
    has_cause (CanComeTo (state_of c.args.self.now) c.args.stage) c.counted.result c.args.self.now.faults c.counted.new.faults
    c.counted.ensures.err
    (λ is can. refused_if (IsTrue c.can_come_to-allowed.result) c.try_enter-outcome.result
    c.try_enter-outcome.ensures.refused (sym c.counted.ensures.outcome ∙ is) (c.can_come_to-allowed.ensures.1 can))

pub returns-clause-asked : goal.returns-clause-asked
returns-clause-asked c =
    ok_to (IsTrue (nat_lt c.counted.new.faults (2 ^ 64 - 1))) (IsTrue c.can_come_to-allowed.result)
    (CanComeTo (state_of c.args.self.now) c.args.stage) c.try_enter-outcome.result c.counted.result c.counted.ensures.outcome
    c.can_come_to-allowed.ensures.0 c.try_enter-outcome.ensures.allowed

pub returns-clause-synced : goal.returns-clause-synced
returns-clause-synced c =
    ok_synced (IsTrue (nat_lt c.counted.new.faults (2 ^ 64 - 1))) c.args.self.now
    (record c.args.self.now {
      now = c.try_enter-outcome.new.now;
      past = c.try_enter-outcome.new.past;
      durable = c.try_enter-outcome.new.durable;
      failure = c.next_failure-failing.new.failure;
      faults = c.counted.new.faults;
    }) c.try_enter-outcome.result c.counted.result c.counted.ensures.outcome c.try_enter-outcome.ensures.moments
    c.try_enter-outcome.ensures.synced
