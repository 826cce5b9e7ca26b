use Rattle.std.proofs.Common.{IsTrue, None, ◌≡◌, inl, refl, subst, sym, ◌∙◌, ◌⊎◌, ◌-◌, ◌^◌}
use Rattle.std.specs.Prelude.{nat_lt}
use Rattle.relmove_stages.specs.StageActions.{IsDone, IsReady, action_of}
use Rattle.relmove_stages_disk.proofs.DisksLemmas.{HasActed-asked, HasActed-does, HasActed-may_do, HasActed-refused, has_cause-both, no_less, one_call}
use Rattle.relmove_stages_disk.specs.Acting.{HasActed}
use Rattle.relmove_stages_disk.specs.Entries.{entries_tree}
use Rattle.relmove_stages_disk.specs.Journals.{said}
use Rattle.relmove_stages_disk.proofs.disk.MemoryDiskExecutor.act.Goals as goal

pub returns-clause-does : goal.returns-clause-does
returns-clause-does c =
    HasActed-does (IsTrue (nat_lt c.counted.new.faults (2 ^ 64 - 1))) c.is_asked-asked.result (action_of c.args.action)
    (entries_tree c.args.self.now.now.entries.items)
    (entries_tree c.try_act-outcome.new.now.entries.items) c.counted.result
    (subst (λ r. HasActed c.is_asked-asked.result (action_of c.args.action) (entries_tree c.args.self.now.now.entries.items)
    (entries_tree c.try_act-outcome.new.now.entries.items) r)
    (sym c.counted.ensures.outcome) c.try_act-outcome.ensures.acted)

pub returns-clause-outcome : goal.returns-clause-outcome
returns-clause-outcome c =
    λ clean.
    HasActed-may_do c.is_asked-asked.result (action_of c.args.action) (entries_tree c.args.self.now.now.entries.items)
    (entries_tree c.try_act-outcome.new.now.entries.items)
    c.try_act-outcome.result c.try_act-outcome.ensures.acted

pub returns-clause-journal : goal.returns-clause-journal
returns-clause-journal c = λ clean. c.try_act-outcome.ensures.journal

pub returns-clause-crash : goal.returns-clause-crash
returns-clause-crash c =
    one_call c.args.self.now
    (record c.args.self.now {
      now = c.try_act-outcome.new.now;
      past = c.try_act-outcome.new.past;
      failure = c.next_failure-failing.new.failure;
      faults = c.counted.new.faults;
      completed = None;
    }) c.try_act-outcome.ensures.moments (inl refl)
    (no_less c.counted.result c.args.self.now.faults c.counted.new.faults c.counted.ensures.ok c.counted.ensures.err)

pub returns-clause-asked : goal.returns-clause-asked
returns-clause-asked c =
    HasActed-asked (IsTrue (nat_lt c.counted.new.faults (2 ^ 64 - 1)))
    (said c.args.self.now.prepared ≡ said c.args.self.now.now.journal) c.is_asked-asked.result (action_of c.args.action)
    (entries_tree c.args.self.now.now.entries.items)
    (entries_tree c.try_act-outcome.new.now.entries.items) c.counted.result c.is_asked-asked.ensures.0
    (subst (λ r. HasActed c.is_asked-asked.result (action_of c.args.action) (entries_tree c.args.self.now.now.entries.items)
    (entries_tree c.try_act-outcome.new.now.entries.items) r)
    (sym c.counted.ensures.outcome) c.try_act-outcome.ensures.acted)

pub returns-clause-prepared : goal.returns-clause-prepared
returns-clause-prepared c = λ clean. refl

pub returns-clause-forgets : goal.returns-clause-forgets
returns-clause-forgets c = λ clean. refl

pub returns-clause-cause : goal.returns-clause-cause
returns-clause-cause c =
    has_cause-both (said c.args.self.now.prepared ≡ said c.args.self.now.now.journal)
    (IsReady (action_of c.args.action) (entries_tree c.args.self.now.now.entries.items) ⊎ IsDone (action_of c.args.action)
    (entries_tree c.args.self.now.now.entries.items))
    c.counted.result c.args.self.now.faults c.counted.new.faults c.counted.ensures.err
    (λ is known can. HasActed-refused c.is_asked-asked.result (action_of c.args.action)
    (entries_tree c.args.self.now.now.entries.items) (entries_tree c.try_act-outcome.new.now.entries.items)
    c.try_act-outcome.result c.try_act-outcome.ensures.acted (sym c.counted.ensures.outcome ∙ is)
    (c.is_asked-asked.ensures.1 known) can)
