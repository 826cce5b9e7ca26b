use Rattle.std.proofs.Common.{inr, sym, ◌∙◌}
use Rattle.relmove_journal.specs.declared.work.Stage.TheVariants.{Erasing}
use Rattle.relmove_stages.proofs.BeginLemmas.{after_halt-more, enter-guards, enter-then, way-erasing}
use Rattle.relmove_stages.proofs.MachineLemmas.{at-begin, of_err}
use Rattle.relmove_stages.proofs.OrderLemmas.{can-erase}
use Rattle.relmove_stages.proofs.beginning.erase.Goals as goal

pub returns-then-is_err-clause-halts : goal.returns-then-is_err-clause-halts
returns-then-is_err-clause-halts g c =
    let s = g.E.Executor in
    λ clean.
    let before = c.enter.ensures.crash.clean clean in
    inr (
      of_err _ c.enter.result (sym c.is_err.ensures.value ∙ c.if-is_err.true) c.enter.ensures.cause clean
          (can-erase c.args.work.now (s.state c.args.executor.now) (c.requires.1.1.1.0 before)),
      c.enter.ensures.tree clean ∙ c.requires.1.1.1.1.1 before,
    )

pub returns-then-is_err-clause-guards : goal.returns-then-is_err-clause-guards
returns-then-is_err-clause-guards g c =
    let s = g.E.Executor in
    λ clean.
    let before = c.enter.ensures.crash.clean clean in
    enter-guards c.args.work.now g.trees Erasing (s.state c.args.executor.now) (s.state c.enter.new.self)
    (way-erasing c.args.work.now g.trees) (c.requires.1.1.1.1.0 before)
    (at-begin c.args.work.now g.trees Erasing (s.state c.args.executor.now).disk.tree (c.requires.1.1.1.1.1 before))
    c.enter.ensures.crash (c.enter.ensures.tree clean) (c.enter.ensures.outcome clean)

pub returns-clause-guards : goal.returns-clause-guards
returns-clause-guards g c =
    let s = g.E.Executor in
    λ clean.
    let two = c.take_back.ensures.guards clean in
    let entered = two.leaves.clean clean in
    let before = c.enter.ensures.crash.clean entered in
    enter-then c.args.work.now g.trees Erasing (s.state c.args.executor.now) (s.state c.enter.new.self)
    (s.state c.take_back.new.executor) (way-erasing c.args.work.now g.trees) (c.requires.1.1.1.1.0 before)
    (at-begin c.args.work.now g.trees Erasing (s.state c.args.executor.now).disk.tree (c.requires.1.1.1.1.1 before))
    c.enter.ensures.crash (c.enter.ensures.tree entered) (c.enter.ensures.outcome entered) two

pub returns-clause-halts : goal.returns-clause-halts
returns-clause-halts g c =
    let s = g.E.Executor in
    λ clean.
    after_halt-more c.args.work.now g.trees (s.state c.args.executor.now).faults (s.state c.enter.new.self).faults
    (s.state c.take_back.new.executor) c.take_back.result c.enter.ensures.crash.no_less (c.take_back.ensures.halts clean)
