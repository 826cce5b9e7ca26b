use Rattle.std.proofs.Common.{ap, arith}
use Rattle.relmove_stages.proofs.LeadsLemmas.{begin-leads, complete-leads}
use Rattle.relmove_stages.proofs.MachineLemmas.{keeps-after, keeps-same, on_err, on_err-map}
use Rattle.relmove_stages.specs.States.{Disk}
use Rattle.relmove_stages.proofs.machine.do_stage.Goals as goal

pub returns-in_err-prepare-clause-cause : goal.returns-in_err-prepare-clause-cause
returns-in_err-prepare-clause-cause g c =
    let s = g.E.Executor in
    on_err _ c.from_residual.result (λ clean.
    let before = c.prepare.ensures.crash.clean clean in
    c.in_err-prepare.ensures.cause clean
    (begin-leads c.args.work.now g.trees (c.requires.1.1.0 before) c.args.stage (s.state c.args.executor.now).disk.tree
    (c.requires.1.1.1.1 before)))

pub returns-clause-cause : goal.returns-clause-cause
returns-clause-cause g c =
    let s = g.E.Executor in
    on_err-map _ _ c.complete.result (λ cause clean.
    let before = c.complete.ensures.crash.clean clean in
    let guards = c.do_actions.ensures.guards before in
    let started = c.prepare.ensures.crash.no_less in
    let less = guards.leaves.no_less in
    let leads = c.requires.1.1.0 (c.prepare.ensures.crash.clean (guards.leaves.clean before)) in
    let failed =
    cause clean (c.in_ok-do_actions.ensures.prepared before)
    (complete-leads c.args.work.now g.trees leads c.args.stage (s.state c.do_actions.new.executor).disk.tree
    (c.in_ok-do_actions.ensures.done before)) in
    omega (arith, started, less, failed)) c.complete.ensures.cause

pub returns-in_err-do_actions-clause-keeps : goal.returns-in_err-do_actions-clause-keeps
returns-in_err-do_actions-clause-keeps g c =
    let s = g.E.Executor in
    λ clean.
    let two = c.do_actions.ensures.keeps clean in
    let same = c.prepare.ensures.same (two.leaves.clean clean) in
    keeps-after c.args.work.now g.trees c.args.stage (s.state c.args.executor.now) (s.state c.prepare.new.self)
    (s.state c.do_actions.new.executor) c.prepare.ensures.crash (ap (λ (d : Disk). d.tree) same) two

pub returns-clause-keeps : goal.returns-clause-keeps
returns-clause-keeps g c =
    let s = g.E.Executor in
    λ clean.
    let done = c.complete.ensures.crash.clean clean in
    let two = c.do_actions.ensures.keeps done in
    let same = c.prepare.ensures.same (two.leaves.clean done) in
    keeps-same c.args.work.now g.trees c.args.stage (s.state c.args.executor.now).disk.tree (s.state c.args.executor.now)
    (s.state c.do_actions.new.executor) (s.state c.complete.new.self)
    (keeps-after c.args.work.now g.trees c.args.stage (s.state c.args.executor.now) (s.state c.prepare.new.self)
    (s.state c.do_actions.new.executor) c.prepare.ensures.crash (ap (λ (d : Disk). d.tree) same) two)
    c.complete.ensures.crash (c.complete.ensures.same clean)
