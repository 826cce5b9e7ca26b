use Rattle.std.proofs.Common.{◌≡◌, ◌+◌, inr, length, suc, Some, arith, refl, sym, ◌∙◌, subst}
use Rattle.relmove_stages.specs.Runs.{CanWrite, IsOnTheWayFrom}
use Rattle.std.specs.List.{slice_get}
use Rattle.std.proofs.lemmas.Option.{slice_get_read}
use Rattle.relmove_journal.specs.declared.work.Stage.TheVariants.{Writing}
use Rattle.relmove_stages.proofs.BeginLemmas.{IsLeft, left-can, left-first, left-next, parts-none, way-first, write-guards, write-parts}
use Rattle.relmove_stages.proofs.MachineLemmas.{at-begin, on_err}
use Rattle.relmove_stages.proofs.StateLemmas.{guards-none}
use Rattle.relmove_stages.proofs.beginning.write_texts.Goals as goal

pub loop-number-init : goal.loop-number-init
loop-number-init g c =
    let s = g.E.Executor in
    record {
      texts = refl;
      guards = λ clean.
          guards-none (IsOnTheWayFrom c.args.work.now g.trees Writing) (s.state c.args.executor.now)
          (way-first c.args.work.now g.trees (s.state c.args.executor.now).disk (inr (c.requires.1.1.1.0 clean))
          (c.requires.1.1.1.1 clean));
      journal = c.requires.1.1.1.0;
      parts = λ clean.
          parts-none c.args.work.now.texts.items g.trees.before (s.state c.args.executor.now).disk.tree (c.requires.1.1.1.1 clean);
      left = λ clean.
          left-first c.args.work.now (g.E.Initiator.texts c.args.executor.now) g.trees (s.state c.args.executor.now).disk.tree
          (c.requires.1.1.0 clean) (c.requires.1.1.1.1 clean);
    }

pub returns-in_err-write-clause-at : goal.returns-in_err-write-clause-at
returns-in_err-write-clause-at g c =
    let s = g.E.Executor in
    λ clean.
    let before = c.write.ensures.crash.clean clean in
    let same : c.as_slice-texts.result.now ≡ c.args.work.now.texts.items = search in
    let at =
    subst (λ texts. slice_get texts c.loop-number.number ≡ Some c.index-texts-number.result) same
    (slice_get_read c.as_slice-texts.result.now (length c.as_slice-texts.result.now) c.loop-number.number c.index-texts-number.result
    refl (omega (arith, c.loop-number-test.true)) c.index-texts-number.is) in
    at-begin c.args.work.now g.trees Writing (s.state c.write.new.self).disk.tree
    (write-parts c.args.work.now.texts.items g.trees.before (s.state c.loop-number.executor).disk.tree
    (s.state c.write.new.self).disk.tree c.loop-number.number c.index-texts-number.result at (c.loop-number.invariant.parts before)
    (c.write.ensures.outcome clean))

pub returns-in_err-write-clause-guards : goal.returns-in_err-write-clause-guards
returns-in_err-write-clause-guards g c =
    let s = g.E.Executor in
    λ clean.
    let before = c.write.ensures.crash.clean clean in
    let same : c.as_slice-texts.result.now ≡ c.args.work.now.texts.items = search in
    let at =
    subst (λ texts. slice_get texts c.loop-number.number ≡ Some c.index-texts-number.result) same
    (slice_get_read c.as_slice-texts.result.now (length c.as_slice-texts.result.now) c.loop-number.number c.index-texts-number.result
    refl (omega (arith, c.loop-number-test.true)) c.index-texts-number.is) in
    write-guards c.args.work.now g.trees c.loop-number.number c.index-texts-number.result (s.state c.args.executor.now)
    (s.state c.loop-number.executor) (s.state c.write.new.self) at (c.loop-number.invariant.guards before)
    (c.loop-number.invariant.journal before) (c.loop-number.invariant.parts before) c.write.ensures.crash
    (c.write.ensures.journal clean) (c.write.ensures.outcome clean)

pub returns-in_err-write-clause-cause : goal.returns-in_err-write-clause-cause
returns-in_err-write-clause-cause g c =
    let s = g.E.Executor in
    on_err _ c.from_residual.result (λ clean.
    let before = c.write.ensures.crash.clean clean in
    let same : c.as_slice-texts.result.now ≡ c.args.work.now.texts.items = search in
    let at =
    subst (λ texts. slice_get texts c.loop-number.number ≡ Some c.index-texts-number.result) same
    (slice_get_read c.as_slice-texts.result.now (length c.as_slice-texts.result.now) c.loop-number.number c.index-texts-number.result
    refl (omega (arith, c.loop-number-test.true)) c.index-texts-number.is) in
    let guards = c.loop-number.invariant.guards before in
    let can =
    left-can c.args.work.now (g.E.Initiator.texts c.args.executor.now) g.trees c.loop-number.number c.index-texts-number.result
    (s.state c.loop-number.executor).disk.tree (c.requires.1.1.0 (guards.leaves.clean before)) at
    (c.loop-number.invariant.left before) in
    let less = guards.leaves.no_less in
    let failed =
    c.in_err-write.ensures.cause clean
    (subst (λ texts. CanWrite texts c.loop-number.number c.index-texts-number.result (s.state c.loop-number.executor).disk.tree)
    (sym c.loop-number.invariant.texts) can) in
    omega (arith, less, failed))

pub loop-number-preserved : goal.loop-number-preserved
loop-number-preserved g c =
    let s = g.E.Executor in
    let same : c.as_slice-texts.result.now ≡ c.args.work.now.texts.items = search in
    let at =
    subst (λ texts. slice_get texts c.loop-number.number ≡ Some c.index-texts-number.result) same
    (slice_get_read c.as_slice-texts.result.now (length c.as_slice-texts.result.now) c.loop-number.number c.index-texts-number.result
    refl (omega (arith, c.loop-number-test.true)) c.index-texts-number.is) in
    record {
      texts = c.write.ensures.texts ∙ c.loop-number.invariant.texts;
      guards = λ clean.
          let before = c.write.ensures.crash.clean clean in
          write-guards c.args.work.now g.trees c.loop-number.number c.index-texts-number.result (s.state c.args.executor.now)
          (s.state c.loop-number.executor) (s.state c.write.new.self) at (c.loop-number.invariant.guards before)
          (c.loop-number.invariant.journal before) (c.loop-number.invariant.parts before) c.write.ensures.crash
          (c.write.ensures.journal clean) (c.write.ensures.outcome clean);
      journal = λ clean. c.write.ensures.journal clean ∙ c.loop-number.invariant.journal (c.write.ensures.crash.clean clean);
      parts = λ clean.
          write-parts c.args.work.now.texts.items g.trees.before (s.state c.loop-number.executor).disk.tree
          (s.state c.write.new.self).disk.tree c.loop-number.number c.index-texts-number.result at
          (c.loop-number.invariant.parts (c.write.ensures.crash.clean clean)) (c.write.ensures.outcome clean);
      left = λ clean.
          let before = c.write.ensures.crash.clean clean in
          let next : suc c.loop-number.number ≡ c.loop-number.number + 1 = omega arith in
          subst
          (λ k. IsLeft c.args.work.now (g.E.Initiator.texts c.args.executor.now) g.trees k (s.state c.write.new.self).disk.tree) next
          (left-next c.args.work.now (g.E.Initiator.texts c.args.executor.now) g.trees c.loop-number.number c.index-texts-number.result
          (s.state c.loop-number.executor).disk.tree (s.state c.write.new.self).disk.tree
          (c.requires.1.1.0 ((c.loop-number.invariant.guards before).leaves.clean before)) at
          (λ bytes is. c.in_ok-write.ensures.written clean bytes
          (subst (λ texts. slice_get texts c.loop-number.number ≡ Some bytes) (sym c.loop-number.invariant.texts) is))
          (c.loop-number.invariant.left before));
    }
