use Rattle.std.proofs.Common.{◌≡◌, ◌⊎◌, inl, inr, ◌+◌, ◌∙◌, IsTrue, Some, arith}
use Rattle.relmove_journal.specs.declared.work.Stage.TheVariants.{Staging, Writing}
use Rattle.relmove_stages.specs.Runs.{IsOnTheWay, Leads}
use Rattle.relmove_stages.proofs.BeginLemmas.{after_halt-more, enter-guards, enter-then, way-staging}
use Rattle.relmove_stages.proofs.MachineLemmas.{at-begin}
use Rattle.relmove_stages.proofs.OrderLemmas.{can-stage}
use Rattle.relmove_stages.proofs.StateLemmas.{guards-then}
use Rattle.relmove_stages.specs.States.{journal_of}
use Rattle.relmove_stages.proofs.beginning.go_on.Goals as goal

pub erase-requires : goal.erase-requires
erase-requires g c κs within = (search, (search, (leads, (journal, (way, tree)))))
  where
    leads : IsTrue (g.E.Executor.state c.enter.new.self).is_clean → Leads c.args.work.now g.trees
    leads clean = c.requires.1.1.0 (c.enter.ensures.crash.clean clean)

    journal : IsTrue (g.E.Executor.state c.enter.new.self).is_clean
        → ((g.E.Executor.state c.enter.new.self).disk.journal ≡ Some (journal_of c.args.work.now Writing))
        ⊎ ((g.E.Executor.state c.enter.new.self).disk.journal ≡ Some (journal_of c.args.work.now Staging))
    journal clean = elim (c.enter.ensures.outcome clean) [
      | inl stays ↦ inl (stays ∙ c.requires.1.1.1.0 (c.enter.ensures.crash.clean clean))
      | inr put ↦ inr put
    ]

    way : IsTrue (g.E.Executor.state c.enter.new.self).is_clean
        → IsOnTheWay c.args.work.now g.trees (g.E.Executor.state c.enter.new.self).disk
    way clean =
        let before = c.enter.ensures.crash.clean clean in
        (enter-guards c.args.work.now g.trees Staging (g.E.Executor.state c.args.executor.now)
        (g.E.Executor.state c.enter.new.self) (way-staging c.args.work.now g.trees) (c.requires.1.1.1.1.0 before)
        (at-begin c.args.work.now g.trees Staging (g.E.Executor.state c.args.executor.now).disk.tree (c.requires.1.1.1.1.1 before))
        c.enter.ensures.crash (c.enter.ensures.tree clean) (c.enter.ensures.outcome clean)).way

    tree : IsTrue (g.E.Executor.state c.enter.new.self).is_clean
        → (g.E.Executor.state c.enter.new.self).disk.tree ≡ g.trees.written
    tree clean = c.enter.ensures.tree clean ∙ c.requires.1.1.1.1.1 (c.enter.ensures.crash.clean clean)

pub returns-in-Err-clause-halts : goal.returns-in-Err-clause-halts
returns-in-Err-clause-halts g c =
    let s = g.E.Executor in
    λ clean.
    let entered = (c.erase.ensures.guards clean).leaves.clean clean in
    let before = c.enter.ensures.crash.clean entered in
    let failed = c.in-Err.ensures.cause entered (can-stage c.args.work.now (s.state c.args.executor.now) (c.requires.1.1.1.0 before)) in
    after_halt-more c.args.work.now g.trees ((s.state c.args.executor.now).faults + 1) (s.state c.enter.new.self).faults
    (s.state c.erase.new.executor) c.erase.result (omega (arith, failed)) (c.erase.ensures.halts clean)

pub returns-in-Err-clause-cause : goal.returns-in-Err-clause-cause
returns-in-Err-clause-cause g c =
    let s = g.E.Executor in
    λ clean.
    let less = (c.erase.ensures.guards clean).leaves.no_less in
    let entered = (c.erase.ensures.guards clean).leaves.clean clean in
    let before = c.enter.ensures.crash.clean entered in
    let failed = c.in-Err.ensures.cause entered (can-stage c.args.work.now (s.state c.args.executor.now) (c.requires.1.1.1.0 before)) in
    omega (arith, less, failed)

pub returns-in-Err-clause-guards : goal.returns-in-Err-clause-guards
returns-in-Err-clause-guards g c =
    let s = g.E.Executor in
    λ clean.
    let two = c.erase.ensures.guards clean in
    let entered = two.leaves.clean clean in
    let before = c.enter.ensures.crash.clean entered in
    guards-then (IsOnTheWay c.args.work.now g.trees) (IsOnTheWay c.args.work.now g.trees) (s.state c.args.executor.now)
    (s.state c.enter.new.self) (s.state c.erase.new.executor) (λ disk way. way)
    (enter-guards c.args.work.now g.trees Staging (s.state c.args.executor.now) (s.state c.enter.new.self)
    (way-staging c.args.work.now g.trees) (c.requires.1.1.1.1.0 before)
    (at-begin c.args.work.now g.trees Staging (s.state c.args.executor.now).disk.tree (c.requires.1.1.1.1.1 before))
    c.enter.ensures.crash (c.enter.ensures.tree entered) (c.enter.ensures.outcome entered)) two

pub returns-in-Err-finish-clause-guards : goal.returns-in-Err-finish-clause-guards
returns-in-Err-finish-clause-guards g c =
    let s = g.E.Executor in
    λ clean.
    let two = c.finish.ensures.guards clean in
    let entered = two.leaves.clean clean in
    let before = c.enter.ensures.crash.clean entered in
    enter-then c.args.work.now g.trees Staging (s.state c.args.executor.now) (s.state c.enter.new.self)
    (s.state c.finish.new.executor) (way-staging c.args.work.now g.trees) (c.requires.1.1.1.1.0 before)
    (at-begin c.args.work.now g.trees Staging (s.state c.args.executor.now).disk.tree (c.requires.1.1.1.1.1 before))
    c.enter.ensures.crash (c.enter.ensures.tree entered) (c.enter.ensures.outcome entered) two

pub returns-in-Ok-clause-guards : goal.returns-in-Ok-clause-guards
returns-in-Ok-clause-guards g c =
    let s = g.E.Executor in
    λ clean.
    let two = c.finish.ensures.guards clean in
    let entered = two.leaves.clean clean in
    let before = c.enter.ensures.crash.clean entered in
    enter-then c.args.work.now g.trees Staging (s.state c.args.executor.now) (s.state c.enter.new.self)
    (s.state c.finish.new.executor) (way-staging c.args.work.now g.trees) (c.requires.1.1.1.1.0 before)
    (at-begin c.args.work.now g.trees Staging (s.state c.args.executor.now).disk.tree (c.requires.1.1.1.1.1 before))
    c.enter.ensures.crash (c.enter.ensures.tree entered) (c.enter.ensures.outcome entered) two
