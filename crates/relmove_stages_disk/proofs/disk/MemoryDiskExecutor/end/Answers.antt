use Rattle.std.proofs.Common.{inl, inr, ap, IsTrue, None, sym, ◌∙◌, ◌≡◌, ◌-◌, ◌^◌}
use Rattle.std.specs.Prelude.{nat_lt}
use Rattle.relmove_stages_disk.proofs.DisksLemmas.{has_cause, no_less, ok_synced, ok_to, one_call, refused_if}
use Rattle.relmove_stages.specs.States.{IsEndKnown}
use Rattle.relmove_stages_disk.specs.Disks.{state_of}
use Rattle.relmove_stages_disk.specs.Journals.{said}
use Rattle.relmove_stages_disk.proofs.disk.MemoryDiskExecutor.end.Goals as goal

pub returns-clause-ended : goal.returns-clause-ended
returns-clause-ended c =
    ok_to (IsTrue (nat_lt c.counted.new.faults (2 ^ 64 - 1))) (c.try_put_journal-outcome.new.now.journal ≡ None)
    (said c.try_put_journal-outcome.new.now.journal ≡ None)
    c.try_put_journal-outcome.result c.counted.result c.counted.ensures.outcome (ap said) c.try_put_journal-outcome.ensures.put

pub returns-clause-outcome : goal.returns-clause-outcome
returns-clause-outcome c =
    λ clean. elim c.try_put_journal-outcome.ensures.outcome [
      | inl stays ↦ inl (ap said stays)
      | inr put ↦ inr (ap said put)
    ]

pub returns-clause-tree : goal.returns-clause-tree
returns-clause-tree c = λ clean. c.try_put_journal-outcome.ensures.tree

pub returns-clause-crash : goal.returns-clause-crash
returns-clause-crash c =
    one_call c.args.self.now
    (record c.args.self.now {
      now = c.try_put_journal-outcome.new.now;
      past = c.try_put_journal-outcome.new.past;
      durable = c.try_put_journal-outcome.new.durable;
      failure = c.next_failure-failing.new.failure;
      faults = c.counted.new.faults;
    }) c.try_put_journal-outcome.ensures.moments c.try_put_journal-outcome.ensures.durable
    (no_less c.counted.result c.args.self.now.faults c.counted.new.faults c.counted.ensures.ok c.counted.ensures.err)

pub returns-clause-cause : goal.returns-clause-cause
returns-clause-cause c =
    has_cause (IsEndKnown (state_of c.args.self.now)) c.counted.result c.args.self.now.faults c.counted.new.faults
    c.counted.ensures.err
    (λ is can. refused_if (IsTrue c.is_end_known-allowed.result) c.try_put_journal-outcome.result
    c.try_put_journal-outcome.ensures.refused (sym c.counted.ensures.outcome ∙ is) (c.is_end_known-allowed.ensures.1 can))

pub returns-clause-asked : goal.returns-clause-asked
returns-clause-asked c =
    ok_to (IsTrue (nat_lt c.counted.new.faults (2 ^ 64 - 1))) (IsTrue c.is_end_known-allowed.result)
    (IsEndKnown (state_of c.args.self.now)) c.try_put_journal-outcome.result c.counted.result c.counted.ensures.outcome
    c.is_end_known-allowed.ensures.0 c.try_put_journal-outcome.ensures.allowed

pub returns-clause-synced : goal.returns-clause-synced
returns-clause-synced c =
    ok_synced (IsTrue (nat_lt c.counted.new.faults (2 ^ 64 - 1))) c.args.self.now
    (record c.args.self.now {
      now = c.try_put_journal-outcome.new.now;
      past = c.try_put_journal-outcome.new.past;
      durable = c.try_put_journal-outcome.new.durable;
      failure = c.next_failure-failing.new.failure;
      faults = c.counted.new.faults;
    }) c.try_put_journal-outcome.result c.counted.result c.counted.ensures.outcome c.try_put_journal-outcome.ensures.moments
    c.try_put_journal-outcome.ensures.synced
