-- The work and the new texts are those of a run of the moves, and the tree is one for which they were planned.
use Rattle.std.proofs.Common.{◌+◌, arith, map, string_bytes}
use Rattle.relative_path_moves.specs.Moves.{moves_of}
use Rattle.relmove_actions.specs.declared.actions.NewText.{NewText}
use Rattle.relmove_stages.proofs.BeginLemmas.{after_halt-more}
use Rattle.relmove_stages.proofs.StateLemmas.{guards-moment}
use Rattle.relmove_work.specs.Leading.{trees_of}
use Rattle.relmove_planned.proofs.ForCallers.{moves-lead}
use Rattle.relmove_planned.proofs.MovesLemmas.{Way, guards-run}
use Rattle.relmove_planned.proofs.moves.carry_out_moves.Goals as goal

pub carry_out_plan-requires-clause-planned : goal.carry_out_plan-requires-clause-planned
carry_out_plan-requires-clause-planned g c = λ clean.
    let was = c.set_texts.ensures.crash.clean clean in
    rw (c.set_texts.ensures.same clean, c.in_default.ensures.texts clean)
    (moves-lead c.args.tree.entries.now c.args.tree.pages.now c.in-Ok.planned.pages.items (moves_of c.args.moves.now) c.args.rule
    c.in-Ok.planned.work _ (g.E.Executor.state c.args.executor.now).disk.tree (c.in-Ok.ensures.planned (c.requires.whole was))
    (c.requires.tree was)).0

pub returns-in-Ok-carry_out_plan-clause-ends : goal.returns-in-Ok-carry_out_plan-clause-ends
returns-in-Ok-carry_out_plan-clause-ends g c = λ clean.
    let set = (c.carry_out_plan.ensures.guards clean).leaves.clean clean in
    let was = c.set_texts.ensures.crash.clean set in
    let ends = c.in-Ok-carry_out_plan.ensures.ends clean in (
      ends.0,
      (moves-lead c.args.tree.entries.now c.args.tree.pages.now c.in-Ok.planned.pages.items (moves_of c.args.moves.now) c.args.rule
          c.in-Ok.planned.work _ (g.E.Executor.state c.args.executor.now).disk.tree (c.in-Ok.ensures.planned (c.requires.whole was))
          (c.requires.tree was)).1 (g.E.Executor.state c.carry_out_plan.new.executor).disk.tree
          (rw (c.set_texts.ensures.same set, c.in_default.ensures.texts set) at ends.1),
    )

pub returns-in-Ok-carry_out_plan-clause-lasts : goal.returns-in-Ok-carry_out_plan-clause-lasts
returns-in-Ok-carry_out_plan-clause-lasts g c = λ clean disk left.
    let set = (c.carry_out_plan.ensures.guards clean).leaves.clean clean in
    let was = c.set_texts.ensures.crash.clean set in
    let lasts = c.in-Ok-carry_out_plan.ensures.lasts clean disk left in
    (moves-lead c.args.tree.entries.now c.args.tree.pages.now c.in-Ok.planned.pages.items (moves_of c.args.moves.now) c.args.rule
    c.in-Ok.planned.work _ (g.E.Executor.state c.args.executor.now).disk.tree (c.in-Ok.ensures.planned (c.requires.whole was))
    (c.requires.tree was)).1 disk.tree
    (rw (c.set_texts.ensures.same set, c.in_default.ensures.texts set) at lasts)

pub returns-in-Ok-carry_out_plan-clause-guards : goal.returns-in-Ok-carry_out_plan-clause-guards
returns-in-Ok-carry_out_plan-clause-guards g c = λ clean.
    let state = g.E.Executor.state in
    let guards = c.carry_out_plan.ensures.guards clean in
    let set = guards.leaves.clean clean in
    guards-run c.args.tree.entries.now c.args.tree.pages.now (moves_of c.args.moves.now) c.args.rule (state c.args.executor.now)
    (state c.set_texts.new.self) (state c.carry_out_plan.new.executor) c.in-Ok.planned.pages.items c.in-Ok.planned.work
    (map (λ (new : NewText). string_bytes new.text) c.in-Ok.planned.texts.items)
    (c.in-Ok.ensures.planned (c.requires.whole (c.set_texts.ensures.crash.clean set))) c.set_texts.ensures.crash
    (c.set_texts.ensures.same set) (rw (c.in_default.ensures.texts set) at guards)

pub returns-in-Ok-carry_out_plan-clause-any_moment : goal.returns-in-Ok-carry_out_plan-clause-any_moment
returns-in-Ok-carry_out_plan-clause-any_moment g c = λ clean.
    guards-moment (Way c.args.tree.entries.now c.args.tree.pages.now (moves_of c.args.moves.now) c.args.rule
    (g.E.Executor.state c.args.executor.now)) (g.E.Executor.state c.args.executor.now)
    (g.E.Executor.state c.carry_out_plan.new.executor) (returns-in-Ok-carry_out_plan-clause-guards g c clean)
    (g.met.E.Executor.only_now c.args.executor.now)

pub returns-in-Err-carry_out_plan-clause-guards : goal.returns-in-Err-carry_out_plan-clause-guards
returns-in-Err-carry_out_plan-clause-guards g c = λ clean.
    let state = g.E.Executor.state in
    let guards = c.carry_out_plan.ensures.guards clean in
    let set = guards.leaves.clean clean in
    guards-run c.args.tree.entries.now c.args.tree.pages.now (moves_of c.args.moves.now) c.args.rule (state c.args.executor.now)
    (state c.set_texts.new.self) (state c.carry_out_plan.new.executor) c.in-Ok.planned.pages.items c.in-Ok.planned.work
    (map (λ (new : NewText). string_bytes new.text) c.in-Ok.planned.texts.items)
    (c.in-Ok.ensures.planned (c.requires.whole (c.set_texts.ensures.crash.clean set))) c.set_texts.ensures.crash
    (c.set_texts.ensures.same set) (rw (c.in_default.ensures.texts set) at guards)

pub returns-in-Err-carry_out_plan-clause-any_moment : goal.returns-in-Err-carry_out_plan-clause-any_moment
returns-in-Err-carry_out_plan-clause-any_moment g c = λ clean.
    guards-moment (Way c.args.tree.entries.now c.args.tree.pages.now (moves_of c.args.moves.now) c.args.rule
    (g.E.Executor.state c.args.executor.now)) (g.E.Executor.state c.args.executor.now)
    (g.E.Executor.state c.carry_out_plan.new.executor) (returns-in-Err-carry_out_plan-clause-guards g c clean)
    (g.met.E.Executor.only_now c.args.executor.now)

pub returns-in-Err-carry_out_plan-clause-halts : goal.returns-in-Err-carry_out_plan-clause-halts
returns-in-Err-carry_out_plan-clause-halts g c = λ clean.
    let state = g.E.Executor.state in
    let set = (c.carry_out_plan.ensures.guards clean).leaves.clean clean in
    let call = c.set_texts.ensures.crash in
    let texts = map (λ (new : NewText). string_bytes new.text) c.in-Ok.planned.texts.items in (
      c.in-Ok.planned.pages.items,
      c.in-Ok.planned.work,
      texts,
      c.in-Ok.ensures.planned (c.requires.whole (call.clean set)),
      after_halt-more c.in-Ok.planned.work (trees_of c.in-Ok.planned.work texts (state c.args.executor.now).disk.tree)
          ((state c.args.executor.now).faults + 1) ((state c.set_texts.new.self).faults + 1) (state c.carry_out_plan.new.executor)
          c.in-Err-carry_out_plan.halt (let less = call.no_less in omega (arith, less))
          (rw (c.set_texts.ensures.same set, c.in_default.ensures.texts set) at (c.in-Err-carry_out_plan.ensures.halts clean)),
    )
