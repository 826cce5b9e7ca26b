use Rattle.std.proofs.Common.{IsTrue, None, inl, refl, subst, sym, ◌∙◌, ◌≡◌, ◌-◌, ◌^◌}
use Rattle.std.specs.Prelude.{nat_lt}
use Rattle.relmove_stages.specs.Runs.{CanWrite}
use Rattle.relmove_stages.specs.StageActions.{MayWrite, place_of}
use Rattle.relmove_stages_disk.proofs.DisksLemmas.{HasWritten-can, HasWritten-may, HasWritten-refused, HasWritten-written, has_cause, no_less, write_call}
use Rattle.relmove_stages_disk.specs.Acting.{HasWritten}
use Rattle.relmove_stages_disk.specs.Disks.{bytes_of, texts_of}
use Rattle.relmove_stages_disk.specs.Entries.{entries_tree}
use Rattle.relmove_stages_disk.specs.Journals.{said}
use Rattle.relmove_stages_disk.proofs.disk.MemoryDiskInitiator.write.Goals as goal

pub returns-clause-texts : goal.returns-clause-texts
returns-clause-texts c = refl

pub returns-clause-forgets : goal.returns-clause-forgets
returns-clause-forgets c = λ clean. refl

pub returns-clause-written : goal.returns-clause-written
returns-clause-written c =
    HasWritten-written (IsTrue (nat_lt c.counted.new.faults (2 ^ 64 - 1))) (texts_of c.args.self.now) c.args.number c.args.text.now
    (entries_tree c.args.self.now.now.entries.items)
    (entries_tree c.try_write-outcome.new.now.entries.items) c.counted.result
    (subst (λ r. HasWritten (texts_of c.args.self.now) c.args.number c.args.text.now
    (entries_tree c.args.self.now.now.entries.items)
    (entries_tree c.try_write-outcome.new.now.entries.items) r)
    (sym c.counted.ensures.outcome) (subst (λ texts. HasWritten (bytes_of texts) c.args.number c.args.text.now
    (entries_tree c.args.self.now.now.entries.items)
    (entries_tree c.try_write-outcome.new.now.entries.items) c.try_write-outcome.result) c.deref.ensures.value
    c.try_write-outcome.ensures.written))

pub returns-clause-can : goal.returns-clause-can
returns-clause-can c =
    HasWritten-can (IsTrue (nat_lt c.counted.new.faults (2 ^ 64 - 1))) (texts_of c.args.self.now) c.args.number c.args.text.now
    (entries_tree c.args.self.now.now.entries.items)
    (entries_tree c.try_write-outcome.new.now.entries.items) c.counted.result
    (subst (λ r. HasWritten (texts_of c.args.self.now) c.args.number c.args.text.now
    (entries_tree c.args.self.now.now.entries.items)
    (entries_tree c.try_write-outcome.new.now.entries.items) r)
    (sym c.counted.ensures.outcome) (subst (λ texts. HasWritten (bytes_of texts) c.args.number c.args.text.now
    (entries_tree c.args.self.now.now.entries.items)
    (entries_tree c.try_write-outcome.new.now.entries.items) c.try_write-outcome.result) c.deref.ensures.value
    c.try_write-outcome.ensures.written))

pub returns-clause-outcome : goal.returns-clause-outcome
returns-clause-outcome c =
    λ clean.
    HasWritten-may (texts_of c.args.self.now) c.args.number c.args.text.now (entries_tree c.args.self.now.now.entries.items)
    (entries_tree c.try_write-outcome.new.now.entries.items)
    c.try_write-outcome.result (subst (λ texts. HasWritten (bytes_of texts) c.args.number c.args.text.now
    (entries_tree c.args.self.now.now.entries.items)
    (entries_tree c.try_write-outcome.new.now.entries.items) c.try_write-outcome.result) c.deref.ensures.value
    c.try_write-outcome.ensures.written)

pub returns-clause-journal : goal.returns-clause-journal
returns-clause-journal c = λ clean. c.try_write-outcome.ensures.journal

pub returns-clause-crash : goal.returns-clause-crash
returns-clause-crash c =
    write_call
    (λ d. (d.journal ≡ said c.args.self.now.now.journal)
    × MayWrite (place_of c.args.text.now.path) c.args.text.now.digest (entries_tree c.args.self.now.now.entries.items) d.tree)
    c.args.text.now c.args.self.now
    (record c.args.self.now {
      now = c.try_write-outcome.new.now;
      past = c.try_write-outcome.new.past;
      failure = c.next_failure-failing.new.failure;
      faults = c.counted.new.faults;
      completed = None;
    }) c.try_write-outcome.ensures.moments refl
    (no_less c.counted.result c.args.self.now.faults c.counted.new.faults c.counted.ensures.ok c.counted.ensures.err)
    (refl, inl refl) (λ mid same may. (same, may)) (
      c.try_write-outcome.ensures.journal,
      HasWritten-may (texts_of c.args.self.now) c.args.number c.args.text.now (entries_tree c.args.self.now.now.entries.items)
          (entries_tree c.try_write-outcome.new.now.entries.items)
          c.try_write-outcome.result (subst (λ texts. HasWritten (bytes_of texts) c.args.number c.args.text.now
          (entries_tree c.args.self.now.now.entries.items)
          (entries_tree c.try_write-outcome.new.now.entries.items) c.try_write-outcome.result) c.deref.ensures.value
          c.try_write-outcome.ensures.written),
    )

pub returns-clause-cause : goal.returns-clause-cause
returns-clause-cause c =
    has_cause
    (CanWrite (texts_of c.args.self.now) c.args.number c.args.text.now (entries_tree c.args.self.now.now.entries.items))
    c.counted.result c.args.self.now.faults c.counted.new.faults c.counted.ensures.err
    (λ is can. HasWritten-refused (texts_of c.args.self.now) c.args.number c.args.text.now
    (entries_tree c.args.self.now.now.entries.items)
    (entries_tree c.try_write-outcome.new.now.entries.items)
    c.try_write-outcome.result (subst (λ texts. HasWritten (bytes_of texts) c.args.number c.args.text.now
    (entries_tree c.args.self.now.now.entries.items)
    (entries_tree c.try_write-outcome.new.now.entries.items) c.try_write-outcome.result) c.deref.ensures.value
    c.try_write-outcome.ensures.written) (sym c.counted.ensures.outcome ∙ is) can)
