use Rattle.std.proofs.Common.{IsTrue, None, Some, refl, sym, ◌∙◌, ◌≡◌, ◌-◌, ◌^◌}
use Rattle.std.specs.Prelude.{nat_lt}
use Rattle.relmove_journal.specs.declared.work.Stage.TheVariants.{Writing}
use Rattle.relmove_stages_disk.proofs.DisksLemmas.{has_cause, no_less, ok_synced, ok_then, one_call, refused_if}
use Rattle.relmove_stages.specs.States.{journal_of}
use Rattle.relmove_stages_disk.specs.Journals.{said}
use Rattle.relmove_stages_disk.proofs.disk.MemoryDiskInitiator.begin.Goals as goal

pub returns-clause-texts : goal.returns-clause-texts
returns-clause-texts c = refl

pub returns-clause-entered : goal.returns-clause-entered
returns-clause-entered c =
    ok_then (IsTrue (nat_lt c.counted.new.faults (2 ^ 64 - 1)))
    (said c.try_begin-outcome.new.now.journal ≡ Some (journal_of c.args.work.now Writing))
    c.try_begin-outcome.result c.counted.result c.counted.ensures.outcome c.try_begin-outcome.ensures.put

pub returns-clause-outcome : goal.returns-clause-outcome
returns-clause-outcome c = λ clean. c.try_begin-outcome.ensures.outcome

pub returns-clause-tree : goal.returns-clause-tree
returns-clause-tree c = λ clean. c.try_begin-outcome.ensures.tree

pub returns-clause-crash : goal.returns-clause-crash
returns-clause-crash c =
    one_call c.args.self.now
    (record c.args.self.now {
      now = c.try_begin-outcome.new.now;
      past = c.try_begin-outcome.new.past;
      durable = c.try_begin-outcome.new.durable;
      failure = c.next_failure-failing.new.failure;
      faults = c.counted.new.faults;
      completed = c.try_begin-outcome.new.completed;
    }) c.try_begin-outcome.ensures.moments c.try_begin-outcome.ensures.durable
    (no_less c.counted.result c.args.self.now.faults c.counted.new.faults c.counted.ensures.ok c.counted.ensures.err)

pub returns-clause-cause : goal.returns-clause-cause
returns-clause-cause c =
    has_cause (said c.args.self.now.now.journal ≡ None) c.counted.result c.args.self.now.faults c.counted.new.faults
    c.counted.ensures.err
    (λ is none. refused_if (said c.args.self.now.now.journal ≡ None) c.try_begin-outcome.result c.try_begin-outcome.ensures.refused
    (sym c.counted.ensures.outcome ∙ is) none)

pub returns-clause-synced : goal.returns-clause-synced
returns-clause-synced c =
    ok_synced (IsTrue (nat_lt c.counted.new.faults (2 ^ 64 - 1))) c.args.self.now
    (record c.args.self.now {
      now = c.try_begin-outcome.new.now;
      past = c.try_begin-outcome.new.past;
      durable = c.try_begin-outcome.new.durable;
      failure = c.next_failure-failing.new.failure;
      faults = c.counted.new.faults;
      completed = c.try_begin-outcome.new.completed;
    }) c.try_begin-outcome.result c.counted.result c.counted.ensures.outcome c.try_begin-outcome.ensures.moments
    c.try_begin-outcome.ensures.synced

pub returns-clause-free : goal.returns-clause-free
returns-clause-free c =
    ok_then (IsTrue (nat_lt c.counted.new.faults (2 ^ 64 - 1))) (said c.args.self.now.now.journal ≡ None)
    c.try_begin-outcome.result c.counted.result c.counted.ensures.outcome c.try_begin-outcome.ensures.free

pub returns-clause-known : goal.returns-clause-known
returns-clause-known c = λ clean none there is. c.try_begin-outcome.ensures.known none there is
