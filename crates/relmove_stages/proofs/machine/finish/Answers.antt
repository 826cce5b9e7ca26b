use Rattle.std.proofs.Common.{IsTrue, Some, None, arith, sym}
use Rattle.relmove_stages.specs.Runs.{IsAtStage, IsOnTheWayFrom, Leads}
use Rattle.relmove_stages.proofs.MachineLemmas.{keeps-later, keeps-put, end-ends, end-guards, end-lasts, next-at, next-guards, on_err, on_err-map, on_ok-map, put-there, stage-guards}
use Rattle.relmove_stages.proofs.OrderLemmas.{can-go_on, comes-here, comes-next, end-known, not_first}
use Rattle.relmove_stages.proofs.StateLemmas.{guards-moment}
use Rattle.relmove_stages.specs.States.{journal_of}
use Rattle.relmove_stages.proofs.machine.finish.Goals as goal

pub returns-in_err-do_stage-clause-any_moment : goal.returns-in_err-do_stage-clause-any_moment
returns-in_err-do_stage-clause-any_moment g c =
    let s = g.E.Executor in
    λ clean disk left.
    guards-moment (IsOnTheWayFrom c.args.work.now g.trees c.args.stage) (s.state c.args.executor.now)
    (s.state c.do_stage.new.executor) (c.do_stage.ensures.guards clean) (g.met.E.Executor.only_now c.args.executor.now) disk left

pub loop-next-init : goal.loop-next-init
loop-next-init g c = record {
  guards = c.do_stage.ensures.guards;
  journal = c.do_stage.ensures.journal;
  done = c.in_ok-do_stage.ensures.done;
  completed = c.in_ok-do_stage.ensures.completed;
  keeps = c.do_stage.ensures.keeps;
  comes = comes-here c.args.stage;
}

pub returns-in_err-enter-clause-guards : goal.returns-in_err-enter-clause-guards
returns-in_err-enter-clause-guards g c =
    let s = g.E.Executor in
    λ clean.
    let before = c.enter.ensures.crash.clean clean in
    let guards = c.loop-next.invariant.guards before in
    next-guards c.args.work.now g.trees (c.requires.1.1.0 (guards.leaves.clean before)) c.args.stage c.loop-next.at
    c.loop-next.invariant.comes c.in-Some.next
    (s.state c.args.executor.now) (s.state c.loop-next.executor) (s.state c.enter.new.self) (sym c.in-Some.ensures.next) guards
    (c.loop-next.invariant.done before) c.enter.ensures.crash (c.enter.ensures.tree clean) (c.enter.ensures.outcome clean)

pub returns-in_err-enter-clause-any_moment : goal.returns-in_err-enter-clause-any_moment
returns-in_err-enter-clause-any_moment g c =
    let s = g.E.Executor in
    λ clean disk left.
    let before = c.enter.ensures.crash.clean clean in
    let guards = c.loop-next.invariant.guards before in
    guards-moment (IsOnTheWayFrom c.args.work.now g.trees c.args.stage) (s.state c.args.executor.now) (s.state c.enter.new.self)
    (next-guards c.args.work.now g.trees (c.requires.1.1.0 (guards.leaves.clean before)) c.args.stage c.loop-next.at
    c.loop-next.invariant.comes c.in-Some.next
    (s.state c.args.executor.now) (s.state c.loop-next.executor) (s.state c.enter.new.self) (sym c.in-Some.ensures.next) guards
    (c.loop-next.invariant.done before) c.enter.ensures.crash (c.enter.ensures.tree clean) (c.enter.ensures.outcome clean))
    (g.met.E.Executor.only_now c.args.executor.now) disk left

pub returns-in_err-enter-clause-cause : goal.returns-in_err-enter-clause-cause
returns-in_err-enter-clause-cause g c =
    let s = g.E.Executor in
    on_err _ c.from_residual-in_err-enter.result (λ clean.
    let before = c.enter.ensures.crash.clean clean in
    let less = (c.loop-next.invariant.guards before).leaves.no_less in
    let failed =
    c.in_err-enter.ensures.cause clean (can-go_on (s.state c.loop-next.executor)
    (journal_of c.args.work.now c.loop-next.at) c.in-Some.next
    (c.loop-next.invariant.journal before) (c.loop-next.invariant.completed before)) in
    omega (arith, less, failed))

pub do_stage-requires-in-Some : goal.do_stage-requires-in-Some
do_stage-requires-in-Some g c κs within = (search, (search, (leads, (c.in_ok-enter.ensures.entered, tree))))
  where
    leads : IsTrue (g.E.Executor.state c.enter.new.self).is_clean → Leads c.args.work.now g.trees
    leads clean =
        let before = c.enter.ensures.crash.clean clean in
        c.requires.1.1.0 ((c.loop-next.invariant.guards before).leaves.clean before)

    tree : IsTrue (g.E.Executor.state c.enter.new.self).is_clean
        → IsAtStage c.args.work.now g.trees c.in-Some.next (g.E.Executor.state c.enter.new.self).disk.tree
    tree clean =
        let before = c.enter.ensures.crash.clean clean in
        next-at c.args.work.now g.trees (leads clean) c.args.stage c.loop-next.at c.loop-next.invariant.comes c.in-Some.next
        (g.E.Executor.state c.loop-next.executor)
        (g.E.Executor.state c.enter.new.self) (sym c.in-Some.ensures.next) (c.loop-next.invariant.done before)
        (c.enter.ensures.tree clean)

pub returns-in_err-do_stage-2-clause-guards : goal.returns-in_err-do_stage-2-clause-guards
returns-in_err-do_stage-2-clause-guards g c =
    let s = g.E.Executor in
    λ clean.
    let two = c.do_stage-in-Some.ensures.guards clean in
    let entered = two.leaves.clean clean in
    let before = c.enter.ensures.crash.clean entered in
    let guards = c.loop-next.invariant.guards before in
    stage-guards c.args.work.now g.trees (c.requires.1.1.0 (guards.leaves.clean before)) c.args.stage c.loop-next.at
    c.loop-next.invariant.comes c.in-Some.next (s.state c.args.executor.now) (s.state c.loop-next.executor)
    (s.state c.enter.new.self) (s.state c.do_stage-in-Some.new.executor) (sym c.in-Some.ensures.next) guards
    (c.loop-next.invariant.done before) c.enter.ensures.crash (c.enter.ensures.tree entered) (c.enter.ensures.outcome entered) two

pub returns-in_err-do_stage-2-clause-any_moment : goal.returns-in_err-do_stage-2-clause-any_moment
returns-in_err-do_stage-2-clause-any_moment g c =
    let s = g.E.Executor in
    λ clean disk left.
    let two = c.do_stage-in-Some.ensures.guards clean in
    let entered = two.leaves.clean clean in
    let before = c.enter.ensures.crash.clean entered in
    let guards = c.loop-next.invariant.guards before in
    guards-moment (IsOnTheWayFrom c.args.work.now g.trees c.args.stage) (s.state c.args.executor.now)
    (s.state c.do_stage-in-Some.new.executor)
    (stage-guards c.args.work.now g.trees (c.requires.1.1.0 (guards.leaves.clean before)) c.args.stage c.loop-next.at
    c.loop-next.invariant.comes c.in-Some.next (s.state c.args.executor.now) (s.state c.loop-next.executor)
    (s.state c.enter.new.self) (s.state c.do_stage-in-Some.new.executor) (sym c.in-Some.ensures.next) guards
    (c.loop-next.invariant.done before) c.enter.ensures.crash (c.enter.ensures.tree entered) (c.enter.ensures.outcome entered) two)
    (g.met.E.Executor.only_now c.args.executor.now) disk left

pub returns-in_err-do_stage-2-clause-cause : goal.returns-in_err-do_stage-2-clause-cause
returns-in_err-do_stage-2-clause-cause g c =
    on_err _ c.from_residual-in_err-do_stage-2.result (λ clean.
    let entered = (c.do_stage-in-Some.ensures.guards clean).leaves.clean clean in
    let less = (c.loop-next.invariant.guards (c.enter.ensures.crash.clean entered)).leaves.no_less in
    let less_2 = c.enter.ensures.crash.no_less in
    let failed = c.in_err-do_stage-2.ensures.cause clean in
    omega (arith, less, less_2, failed))

pub loop-next-preserved : goal.loop-next-preserved
loop-next-preserved g c =
    let s = g.E.Executor in
    record {
      guards = λ clean.
          let two = c.do_stage-in-Some.ensures.guards clean in
          let entered = two.leaves.clean clean in
          let before = c.enter.ensures.crash.clean entered in
          let guards = c.loop-next.invariant.guards before in
          stage-guards c.args.work.now g.trees (c.requires.1.1.0 (guards.leaves.clean before)) c.args.stage c.loop-next.at
          c.loop-next.invariant.comes c.in-Some.next (s.state c.args.executor.now) (s.state c.loop-next.executor)
          (s.state c.enter.new.self) (s.state c.do_stage-in-Some.new.executor) (sym c.in-Some.ensures.next) guards
          (c.loop-next.invariant.done before) c.enter.ensures.crash (c.enter.ensures.tree entered)
          (c.enter.ensures.outcome entered) two;
      journal = c.do_stage-in-Some.ensures.journal;
      done = c.in_ok-do_stage-2.ensures.done;
      completed = c.in_ok-do_stage-2.ensures.completed;
      keeps = λ clean.
          let two = c.do_stage-in-Some.ensures.guards clean in
          let entered = two.leaves.clean clean in
          let before = c.enter.ensures.crash.clean entered in
          keeps-later c.args.work.now g.trees c.args.stage (s.state c.args.executor.now).disk.tree c.loop-next.at c.in-Some.next
          (s.state c.args.executor.now) (s.state c.enter.new.self) (s.state c.do_stage-in-Some.new.executor)
          c.loop-next.invariant.comes (sym c.in-Some.ensures.next)
          (keeps-put c.args.work.now g.trees c.args.stage (s.state c.args.executor.now).disk.tree
          (Some (journal_of c.args.work.now c.in-Some.next))
          (s.state c.args.executor.now) (s.state c.loop-next.executor) (s.state c.enter.new.self) (c.loop-next.invariant.keeps before)
          c.enter.ensures.crash (c.enter.ensures.tree entered) (c.enter.ensures.outcome entered)
          (not_first c.args.work.now c.args.stage c.loop-next.at c.in-Some.next
          c.loop-next.invariant.comes (sym c.in-Some.ensures.next))) two;
      comes = comes-next c.args.stage c.loop-next.at c.in-Some.next c.loop-next.invariant.comes (sym c.in-Some.ensures.next);
    }

pub returns-clause-ends : goal.returns-clause-ends
returns-clause-ends g c =
    let s = g.E.Executor in
    on_ok-map _ _ c.end.result (λ ended clean.
    let before = c.end.ensures.crash.clean clean in (
      ended clean,
      end-ends c.args.work.now g.trees (c.requires.1.1.0 ((c.loop-next.invariant.guards before).leaves.clean before))
          c.args.stage c.loop-next.at c.loop-next.invariant.comes
          (s.state c.loop-next.executor) (s.state c.end.new.self) (sym c.in_default.ensures.next)
          (c.loop-next.invariant.done before) (c.end.ensures.tree clean),
    )) c.end.ensures.ended

pub returns-clause-lasts : goal.returns-clause-lasts
returns-clause-lasts g c =
    let s = g.E.Executor in
    on_ok-map _ _ c.end.result (λ synced clean disk left.
    let before = c.end.ensures.crash.clean clean in
    end-lasts c.args.work.now g.trees (c.requires.1.1.0 ((c.loop-next.invariant.guards before).leaves.clean before))
    c.args.stage c.loop-next.at c.loop-next.invariant.comes
    (s.state c.loop-next.executor) (s.state c.end.new.self) disk (sym c.in_default.ensures.next)
    (c.loop-next.invariant.done before) (c.end.ensures.tree clean) (synced clean disk left)) c.end.ensures.synced

pub returns-clause-guards : goal.returns-clause-guards
returns-clause-guards g c =
    let s = g.E.Executor in
    λ clean.
    let before = c.end.ensures.crash.clean clean in
    let guards = c.loop-next.invariant.guards before in
    end-guards c.args.work.now g.trees (c.requires.1.1.0 (guards.leaves.clean before)) c.args.stage c.loop-next.at
    c.loop-next.invariant.comes
    (s.state c.args.executor.now) (s.state c.loop-next.executor) (s.state c.end.new.self) (sym c.in_default.ensures.next) guards
    (c.loop-next.invariant.done before) c.end.ensures.crash (c.end.ensures.tree clean) (c.end.ensures.outcome clean)

pub returns-clause-any_moment : goal.returns-clause-any_moment
returns-clause-any_moment g c =
    let s = g.E.Executor in
    λ clean disk left.
    let before = c.end.ensures.crash.clean clean in
    let guards = c.loop-next.invariant.guards before in
    guards-moment (IsOnTheWayFrom c.args.work.now g.trees c.args.stage) (s.state c.args.executor.now) (s.state c.end.new.self)
    (end-guards c.args.work.now g.trees (c.requires.1.1.0 (guards.leaves.clean before)) c.args.stage c.loop-next.at
    c.loop-next.invariant.comes
    (s.state c.args.executor.now) (s.state c.loop-next.executor) (s.state c.end.new.self) (sym c.in_default.ensures.next) guards
    (c.loop-next.invariant.done before) c.end.ensures.crash (c.end.ensures.tree clean) (c.end.ensures.outcome clean))
    (g.met.E.Executor.only_now c.args.executor.now) disk left

pub returns-clause-cause : goal.returns-clause-cause
returns-clause-cause g c =
    let s = g.E.Executor in
    on_err-map _ _ c.end.result (λ cause clean.
    let before = c.end.ensures.crash.clean clean in
    let less = (c.loop-next.invariant.guards before).leaves.no_less in
    let failed =
    cause clean (end-known (s.state c.loop-next.executor)
    (journal_of c.args.work.now c.loop-next.at) (c.loop-next.invariant.journal before)
    (c.loop-next.invariant.completed before)) in
    omega (arith, less, failed)) c.end.ensures.cause

pub returns-in_err-enter-clause-whole : goal.returns-in_err-enter-clause-whole
returns-in_err-enter-clause-whole g c =
    let s = g.E.Executor in
    λ clean none.
    absurd (put-there (s.state c.loop-next.executor).disk.journal (s.state c.enter.new.self).disk.journal
    (journal_of c.args.work.now c.loop-next.at) (journal_of c.args.work.now c.in-Some.next)
    (c.loop-next.invariant.journal (c.enter.ensures.crash.clean clean)) (c.enter.ensures.outcome clean) none)

pub returns-clause-whole : goal.returns-clause-whole
returns-clause-whole g c =
    let s = g.E.Executor in
    λ clean none.
    let before = c.end.ensures.crash.clean clean in
    end-ends c.args.work.now g.trees (c.requires.1.1.0 ((c.loop-next.invariant.guards before).leaves.clean before))
    c.args.stage c.loop-next.at c.loop-next.invariant.comes
    (s.state c.loop-next.executor) (s.state c.end.new.self) (sym c.in_default.ensures.next)
    (c.loop-next.invariant.done before) (c.end.ensures.tree clean)

pub returns-in_err-enter-clause-keeps : goal.returns-in_err-enter-clause-keeps
returns-in_err-enter-clause-keeps g c =
    let s = g.E.Executor in
    λ clean.
    let before = c.enter.ensures.crash.clean clean in
    keeps-put c.args.work.now g.trees c.args.stage (s.state c.args.executor.now).disk.tree
    (Some (journal_of c.args.work.now c.in-Some.next))
    (s.state c.args.executor.now) (s.state c.loop-next.executor) (s.state c.enter.new.self) (c.loop-next.invariant.keeps before)
    c.enter.ensures.crash (c.enter.ensures.tree clean) (c.enter.ensures.outcome clean)
    (not_first c.args.work.now c.args.stage c.loop-next.at c.in-Some.next
    c.loop-next.invariant.comes (sym c.in-Some.ensures.next))

pub returns-in_err-do_stage-2-clause-keeps : goal.returns-in_err-do_stage-2-clause-keeps
returns-in_err-do_stage-2-clause-keeps g c =
    let s = g.E.Executor in
    λ clean.
    let two = c.do_stage-in-Some.ensures.guards clean in
    let entered = two.leaves.clean clean in
    let before = c.enter.ensures.crash.clean entered in
    keeps-later c.args.work.now g.trees c.args.stage (s.state c.args.executor.now).disk.tree c.loop-next.at c.in-Some.next
    (s.state c.args.executor.now) (s.state c.enter.new.self) (s.state c.do_stage-in-Some.new.executor)
    c.loop-next.invariant.comes (sym c.in-Some.ensures.next)
    (keeps-put c.args.work.now g.trees c.args.stage (s.state c.args.executor.now).disk.tree
    (Some (journal_of c.args.work.now c.in-Some.next))
    (s.state c.args.executor.now) (s.state c.loop-next.executor) (s.state c.enter.new.self) (c.loop-next.invariant.keeps before)
    c.enter.ensures.crash (c.enter.ensures.tree entered) (c.enter.ensures.outcome entered)
    (not_first c.args.work.now c.args.stage c.loop-next.at c.in-Some.next
    c.loop-next.invariant.comes (sym c.in-Some.ensures.next))) two

pub returns-clause-keeps : goal.returns-clause-keeps
returns-clause-keeps g c =
    let s = g.E.Executor in
    λ clean.
    let before = c.end.ensures.crash.clean clean in
    keeps-put c.args.work.now g.trees c.args.stage (s.state c.args.executor.now).disk.tree None
    (s.state c.args.executor.now) (s.state c.loop-next.executor) (s.state c.end.new.self) (c.loop-next.invariant.keeps before)
    c.end.ensures.crash (c.end.ensures.tree clean) (c.end.ensures.outcome clean) (λ is. cc is)
