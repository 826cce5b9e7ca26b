use Rattle.std.proofs.Common.{IsTrue, refl}
use Rattle.relmove_plan.specs.KnownTrees.{IsAfterMoves}
use Rattle.relmove_planned.proofs.ForCallers.{run-leads}
use Rattle.relmove_planned.proofs.OutcomeLemmas.{on_ok-map}
use Rattle.relmove_planned.specs.Plans.{PlannedRun}
use Rattle.relmove_trees.specs.FileTrees.{Tree}
use Rattle.relmove_work.specs.Leading.{LeadsThere}
use Rattle.relmove_planned.proofs.run.carry_out_plan.Goals as goal

-- the work leads to the tree after the moves of a run
led : (g : _) (c : goal.After-carry_out-arg-1 g) (clean : IsTrue (g.E.Executor.state c.args.executor.now).is_clean)
    → (run : PlannedRun) × (now : Tree) × LeadsThere c.args.work.now (g.E.Initiator.texts c.args.executor.now)
    (IsAfterMoves run.moves now) (g.E.Executor.state c.args.executor.now).disk.tree
led g c clean =
    let (run, now, starts) = c.requires.planned clean in (
      run,
      now,
      run-leads run c.args.work.now (g.E.Initiator.texts c.args.executor.now) (g.E.Executor.state c.args.executor.now).disk.tree now starts,
    )

pub carry_out-requires : goal.carry_out-requires
carry_out-requires g c κs within = (
  search,
  (
    search,
    (
      λ clean. (led g c clean).2.leads,
      (λ clean. (led g c clean).2.initiates, (λ clean. c.requires.journal clean, λ clean. refl)),
    ),
  ),
)

pub returns-clause-ends : goal.returns-clause-ends
returns-clause-ends g c =
    on_ok-map c.carry_out.result (λ ends clean. (
      (ends clean).0,
      λ run now starts.
          (run-leads run c.args.work.now (g.E.Initiator.texts c.args.executor.now)
          (g.E.Executor.state c.args.executor.now).disk.tree now starts).ends (g.E.Executor.state c.carry_out.new.executor).disk.tree
          (ends clean).1,
    ))
    c.carry_out.ensures.ends

pub returns-clause-lasts : goal.returns-clause-lasts
returns-clause-lasts g c =
    on_ok-map c.carry_out.result (λ lasts clean disk left run now starts.
    (run-leads run c.args.work.now (g.E.Initiator.texts c.args.executor.now)
    (g.E.Executor.state c.args.executor.now).disk.tree now starts).ends disk.tree (lasts clean disk left))
    c.carry_out.ensures.lasts
