use Rattle.std.proofs.Common.{sym, ◌∙◌}
use Rattle.relmove_stages.proofs.BeginLemmas.{back-parts, way-back}
use Rattle.relmove_stages.proofs.MachineLemmas.{of_err}
use Rattle.relmove_stages.proofs.beginning.take_back.Goals as goal

pub returns-then-is_err-clause-halts : goal.returns-then-is_err-clause-halts
returns-then-is_err-clause-halts g c =
    let s = g.E.Executor in
    λ clean.
    let guards = c.finish.ensures.guards clean in
    let before = guards.leaves.clean clean in (
      of_err _ c.finish.result (sym c.is_err.ensures.value ∙ c.if-is_err.true) c.finish.ensures.cause clean,
      back-parts c.args.work.now g.trees (c.requires.1.1.1.0 before) c.args.stage c.requires.1.1.0
          (s.state c.finish.new.executor).disk guards.way,
      way-back c.args.work.now g.trees c.args.stage c.requires.1.1.0 (s.state c.finish.new.executor).disk guards.way,
    )
