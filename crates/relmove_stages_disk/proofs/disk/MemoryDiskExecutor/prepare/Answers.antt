use Rattle.std.proofs.Common.{IsTrue, OnOk, Some, ◌≡◌, inl, refl, subst, sym, ◌∙◌, ◌-◌, ◌^◌}
use Rattle.std.specs.Prelude.{nat_lt}
use Rattle.relmove_stages.specs.Runs.{CanBegin}
use Rattle.relmove_stages_disk.proofs.DisksLemmas.{has_cause, no_less, ok_then, one_call, refused_if}
use Rattle.relmove_stages_disk.specs.Entries.{entries_tree}
use Rattle.relmove_stages.specs.States.{journal_of}
use Rattle.relmove_stages_disk.specs.Journals.{said}
use Rattle.relmove_stages_disk.proofs.disk.MemoryDiskExecutor.prepare.Goals as goal

pub returns-clause-can : goal.returns-clause-can
returns-clause-can c =
    subst
    (λ entries. OnOk c.counted.result (IsTrue (nat_lt c.counted.new.faults (2 ^ 64 - 1))
    → CanBegin c.args.work.now c.args.stage (entries_tree entries)))
    c.deref.ensures.value
    (ok_then (IsTrue (nat_lt c.counted.new.faults (2 ^ 64 - 1)))
    (CanBegin c.args.work.now c.args.stage (entries_tree c.deref.result.now)) c.try_prepare-outcome.result c.counted.result
    c.counted.ensures.outcome c.try_prepare-outcome.ensures.can)

pub returns-clause-same : goal.returns-clause-same
returns-clause-same c = λ clean. refl

pub returns-clause-crash : goal.returns-clause-crash
returns-clause-crash c =
    one_call c.args.self.now
    (record c.args.self.now {
      failure = c.next_failure-failing.new.failure;
      faults = c.counted.new.faults;
      prepared = c.try_prepare-outcome.new.prepared;
    }) (inl (refl, refl))
    (inl refl) (no_less c.counted.result c.args.self.now.faults c.counted.new.faults c.counted.ensures.ok c.counted.ensures.err)

pub returns-clause-cause : goal.returns-clause-cause
returns-clause-cause c =
    has_cause (CanBegin c.args.work.now c.args.stage (entries_tree c.args.self.now.now.entries.items)) c.counted.result
    c.args.self.now.faults c.counted.new.faults c.counted.ensures.err
    (λ is can. refused_if (CanBegin c.args.work.now c.args.stage (entries_tree c.deref.result.now)) c.try_prepare-outcome.result
    c.try_prepare-outcome.ensures.refused (sym c.counted.ensures.outcome ∙ is)
    (subst (λ entries. CanBegin c.args.work.now c.args.stage (entries_tree entries)) (sym c.deref.ensures.value) can))

pub returns-clause-asked : goal.returns-clause-asked
returns-clause-asked c =
    ok_then (IsTrue (nat_lt c.counted.new.faults (2 ^ 64 - 1)))
    (said c.try_prepare-outcome.new.prepared ≡ Some (journal_of c.args.work.now c.args.stage))
    c.try_prepare-outcome.result c.counted.result c.counted.ensures.outcome c.try_prepare-outcome.ensures.asked
