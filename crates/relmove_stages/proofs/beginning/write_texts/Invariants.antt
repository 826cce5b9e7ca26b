use Rattle.std.proofs.Common.{◌≡◌, ◌-◌, Some, IsTrue, length}
use Rattle.relmove_journal.specs.declared.work.Stage.TheVariants.{Writing}
use Rattle.relmove_stages.specs.Runs.{Guards, HasParts, IsOnTheWayFrom}
use Rattle.relmove_stages.specs.States.{journal_of}
use Rattle.relmove_stages.proofs.BeginLemmas.{IsLeft}
use Rattle.relmove_stages.proofs.beginning.write_texts.Given as goal

-- the first texts are written, and those that are left lead to the tree with all of them
abbrev pub invariant-loop-number : goal.invariant-loop-number
invariant-loop-number g l =
    let s = g.E.Executor in
    let t = g.E.Initiator in
    record {
      texts : t.texts l.executor ≡ t.texts l.fn.executor;
      guards : IsTrue (s.state l.executor).is_clean
          → Guards (IsOnTheWayFrom l.work g.trees Writing) (s.state l.fn.executor) (s.state l.executor);
      journal : IsTrue (s.state l.executor).is_clean → (s.state l.executor).disk.journal ≡ Some (journal_of l.work Writing);
      parts : IsTrue (s.state l.executor).is_clean
          → HasParts l.work.texts.items g.trees.before (s.state l.executor).disk.tree;
      left : IsTrue (s.state l.executor).is_clean
          → IsLeft l.work (t.texts l.fn.executor) g.trees l.number (s.state l.executor).disk.tree;
    }

abbrev pub decreases-loop-number : goal.decreases-loop-number
decreases-loop-number g l = length l.work.texts.items - l.number
