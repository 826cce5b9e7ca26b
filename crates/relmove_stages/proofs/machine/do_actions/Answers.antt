use Rattle.std.proofs.Common.{◌≡◌, ◌+◌, suc, arith, sym, ◌∙◌, subst}
use Rattle.std.proofs.lemmas.Option.{slice_get_within}
use Rattle.relmove_stages.specs.StageActions.{action_of}
use Rattle.relmove_stages.specs.Stages.{stage_actions}
use Rattle.relmove_stages.proofs.ChainLemmas.{past_end}
use Rattle.relmove_stages.proofs.OrderLemmas.{comes-here}
use Rattle.relmove_stages.proofs.MachineLemmas.{IsStagePast, act-cause, act-guards, act-keeps, act-past, act-reached, on_err, reached-last}
use Rattle.relmove_stages.specs.Runs.{IsStageReached}
use Rattle.relmove_stages.proofs.machine.do_actions.Goals as goal

pub returns-in_err-act-clause-guards : goal.returns-in_err-act-clause-guards
returns-in_err-act-clause-guards g c =
    let s = g.E.Executor in
    λ clean.
    let before = c.act.ensures.crash.clean clean in
    let guards = c.loop-action.invariant.guards before in
    act-guards c.args.work.now g.trees (c.requires.1.1.0 (guards.leaves.clean before)) c.args.stage c.args.stage
    (comes-here c.args.stage) c.loop-action.number
    (action_of c.in-Some.action) (s.state c.args.executor.now) (s.state c.loop-action.executor) (s.state c.act.new.self)
    (sym c.in-Some.ensures.listed) guards (c.loop-action.invariant.journal before) (c.loop-action.invariant.reached before)
    c.act.ensures.crash (c.act.ensures.journal clean) (c.act.ensures.outcome clean)

pub returns-in_err-act-clause-keeps : goal.returns-in_err-act-clause-keeps
returns-in_err-act-clause-keeps g c =
    let s = g.E.Executor in
    λ clean.
    let before = c.act.ensures.crash.clean clean in
    let guards = c.loop-action.invariant.guards before in
    act-keeps c.args.work.now g.trees (c.requires.1.1.0 (guards.leaves.clean before)) c.args.stage c.args.stage
    (comes-here c.args.stage) c.loop-action.number
    (action_of c.in-Some.action) (s.state c.args.executor.now) (s.state c.loop-action.executor) (s.state c.act.new.self)
    (sym c.in-Some.ensures.listed) (c.loop-action.invariant.keeps before) (c.loop-action.invariant.past before)
    c.act.ensures.crash (c.act.ensures.outcome clean)

pub returns-in_err-act-clause-cause : goal.returns-in_err-act-clause-cause
returns-in_err-act-clause-cause g c =
    let s = g.E.Executor in
    on_err _ c.from_residual.result (λ clean.
    let before = c.act.ensures.crash.clean clean in
    let guards = c.loop-action.invariant.guards before in
    act-cause c.args.work.now g.trees (c.requires.1.1.0 (guards.leaves.clean before)) c.args.stage c.args.stage
    (comes-here c.args.stage) c.loop-action.number
    (action_of c.in-Some.action) (s.state c.args.executor.now) (s.state c.loop-action.executor) (s.state c.act.new.self)
    (sym c.in-Some.ensures.listed) guards (c.loop-action.invariant.reached before) (c.in_err-act.ensures.cause clean
    (c.loop-action.invariant.prepared before ∙ sym (c.loop-action.invariant.journal before))))

pub loop-action-smaller : goal.loop-action-smaller
loop-action-smaller g c =
    let within =
    slice_get_within (stage_actions c.args.work.now c.args.stage) c.loop-action.number (action_of c.in-Some.action)
    (sym c.in-Some.ensures.listed) in
    omega (arith, within)

pub loop-action-preserved : goal.loop-action-preserved
loop-action-preserved g c =
    let s = g.E.Executor in
    record {
      guards = λ clean.
          let before = c.act.ensures.crash.clean clean in
          let guards = c.loop-action.invariant.guards before in
          act-guards c.args.work.now g.trees (c.requires.1.1.0 (guards.leaves.clean before)) c.args.stage c.args.stage
          (comes-here c.args.stage) c.loop-action.number
          (action_of c.in-Some.action) (s.state c.args.executor.now) (s.state c.loop-action.executor) (s.state c.act.new.self)
          (sym c.in-Some.ensures.listed) guards (c.loop-action.invariant.journal before)
          (c.loop-action.invariant.reached before) c.act.ensures.crash (c.act.ensures.journal clean) (c.act.ensures.outcome clean);
      journal = λ clean. c.act.ensures.journal clean ∙ c.loop-action.invariant.journal (c.act.ensures.crash.clean clean);
      prepared = λ clean. c.act.ensures.prepared clean ∙ c.loop-action.invariant.prepared (c.act.ensures.crash.clean clean);
      reached = λ clean.
          let before = c.act.ensures.crash.clean clean in
          let guards = c.loop-action.invariant.guards before in
          let next : suc c.loop-action.number ≡ c.loop-action.number + 1 = omega arith in
          subst
          (λ k. IsStageReached c.args.work.now g.trees c.args.stage k (s.state c.act.new.self).disk.tree) next
          (act-reached c.args.work.now g.trees (c.requires.1.1.0 (guards.leaves.clean before)) c.args.stage c.args.stage
          (comes-here c.args.stage) c.loop-action.number
          (action_of c.in-Some.action) (s.state c.loop-action.executor) (s.state c.act.new.self) (sym c.in-Some.ensures.listed)
          (c.loop-action.invariant.reached before) (c.in_ok-act.ensures.does clean));
      keeps = λ clean.
          let before = c.act.ensures.crash.clean clean in
          let guards = c.loop-action.invariant.guards before in
          act-keeps c.args.work.now g.trees (c.requires.1.1.0 (guards.leaves.clean before)) c.args.stage c.args.stage
          (comes-here c.args.stage) c.loop-action.number
          (action_of c.in-Some.action) (s.state c.args.executor.now) (s.state c.loop-action.executor) (s.state c.act.new.self)
          (sym c.in-Some.ensures.listed) (c.loop-action.invariant.keeps before) (c.loop-action.invariant.past before)
          c.act.ensures.crash (c.act.ensures.outcome clean);
      past = λ clean k done.
          let before = c.act.ensures.crash.clean clean in
          let guards = c.loop-action.invariant.guards before in
          let next : suc c.loop-action.number ≡ c.loop-action.number + 1 = omega arith in
          subst
          (λ i. IsStagePast c.args.work.now g.trees c.args.stage k i (s.state c.act.new.self).disk.tree) next
          (act-past c.args.work.now g.trees (c.requires.1.1.0 (guards.leaves.clean before)) c.args.stage c.args.stage
          (comes-here c.args.stage) k c.loop-action.number
          (action_of c.in-Some.action) (s.state c.loop-action.executor) (s.state c.act.new.self) (sym c.in-Some.ensures.listed)
          (c.loop-action.invariant.past before k done) (c.in_ok-act.ensures.does clean));
    }

pub returns-clause-done : goal.returns-clause-done
returns-clause-done g c =
    let s = g.E.Executor in
    λ clean.
    reached-last c.args.work.now g.trees c.args.stage c.loop-action.number (s.state c.loop-action.executor).disk.tree
    (past_end (stage_actions c.args.work.now c.args.stage) c.loop-action.number c.in_default.ensures.listed)
    (c.loop-action.invariant.reached clean)
