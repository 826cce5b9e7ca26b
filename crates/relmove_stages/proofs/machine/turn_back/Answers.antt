use denote.Enum.Bare.{sameb}
use Rattle.std.proofs.Common.{IsTrue, ap, false, rules, sym, true≢false, subst, ◌≡◌, ◌∙◌}
use Rattle.relmove_journal.specs.contracts.work.Stage.{the_type}
use Rattle.relmove_stages.specs.Runs.{Guards, IsAtStage, IsOnTheWayBack, KeepsDone, Leads}
use Rattle.relmove_stages.proofs.MachineLemmas.{back-at, back-guards, back-then, keeps-after, on_err}
use Rattle.relmove_stages.proofs.LeadsLemmas.{next_is}
use Rattle.relmove_journal.specs.declared.work.Stage.{Stage}
use Rattle.relmove_stages.proofs.OrderLemmas.{can-turn_back, same-itself}
use Rattle.relmove_stages.proofs.StateLemmas.{guards-moment}
use Rattle.relmove_stages.proofs.machine.turn_back.Goals as goal

pub returns-in_err-enter-clause-guards : goal.returns-in_err-enter-clause-guards
returns-in_err-enter-clause-guards g c =
    let s = g.E.Executor in
    λ clean.
    let before = c.enter.ensures.crash.clean clean in
    back-guards c.args.work.now g.trees (c.requires.1.1.0 before) c.args.stage c.in-Some.back (sym c.in-Some.ensures.back)
    (s.state c.args.executor.now) (s.state c.enter.new.self) (c.requires.1.1.1.1 before) c.enter.ensures.crash
    (c.enter.ensures.tree clean) (c.enter.ensures.outcome clean)

pub returns-in_err-enter-clause-any_moment : goal.returns-in_err-enter-clause-any_moment
returns-in_err-enter-clause-any_moment g c =
    let s = g.E.Executor in
    λ clean disk left.
    let before = c.enter.ensures.crash.clean clean in
    guards-moment (IsOnTheWayBack c.args.work.now g.trees c.args.stage (s.state c.args.executor.now).disk)
    (s.state c.args.executor.now) (s.state c.enter.new.self)
    (back-guards c.args.work.now g.trees (c.requires.1.1.0 before) c.args.stage c.in-Some.back (sym c.in-Some.ensures.back)
    (s.state c.args.executor.now) (s.state c.enter.new.self) (c.requires.1.1.1.1 before) c.enter.ensures.crash
    (c.enter.ensures.tree clean) (c.enter.ensures.outcome clean))
    (g.met.E.Executor.only_now c.args.executor.now) disk left

pub returns-in_err-enter-clause-cause : goal.returns-in_err-enter-clause-cause
returns-in_err-enter-clause-cause g c =
    let s = g.E.Executor in
    let no : c.eq.result ≡ false = search rules in
    let differ : ¬ (c.args.stage ≡ c.in-Some.back) =
    λ same.
    true≢false
    (sym (same-itself c.args.stage) ∙ ap (λ stage. sameb the_type stage c.args.stage) same ∙ sym c.eq.ensures ∙ no) in
    on_err _ c.from_residual-in_err-enter.result (λ clean.
    c.in_err-enter.ensures.cause clean (can-turn_back c.args.work.now (s.state c.args.executor.now) c.args.stage c.in-Some.back
    (c.requires.1.1.1.0 (c.enter.ensures.crash.clean clean)) (sym c.in-Some.ensures.back) differ))

pub finish-requires-2 : goal.finish-requires-2
finish-requires-2 g c κs within = (search, (search, (leads, (c.in_ok-enter.ensures.entered, tree))))
  where
    leads : IsTrue (g.E.Executor.state c.enter.new.self).is_clean → Leads c.args.work.now g.trees
    leads clean = c.requires.1.1.0 (c.enter.ensures.crash.clean clean)

    tree : IsTrue (g.E.Executor.state c.enter.new.self).is_clean
        → IsAtStage c.args.work.now g.trees c.in-Some.back (g.E.Executor.state c.enter.new.self).disk.tree
    tree clean =
        let before = c.enter.ensures.crash.clean clean in
        back-at c.args.work.now g.trees (leads clean) c.args.stage c.in-Some.back (sym c.in-Some.ensures.back)
        (g.E.Executor.state c.args.executor.now) (g.E.Executor.state c.enter.new.self) (c.requires.1.1.1.1 before)
        (c.enter.ensures.tree clean)

pub returns-in_err-finish-2-clause-guards : goal.returns-in_err-finish-2-clause-guards
returns-in_err-finish-2-clause-guards g c =
    let s = g.E.Executor in
    λ clean.
    let two = c.finish-2.ensures.guards clean in
    let entered = two.leaves.clean clean in
    let before = c.enter.ensures.crash.clean entered in
    back-then c.args.work.now g.trees (c.requires.1.1.0 before) c.args.stage c.in-Some.back (sym c.in-Some.ensures.back)
    (s.state c.args.executor.now) (s.state c.enter.new.self) (s.state c.finish-2.new.executor) (c.requires.1.1.1.1 before)
    c.enter.ensures.crash (c.enter.ensures.tree entered) (c.enter.ensures.outcome entered) two

pub returns-in_err-finish-2-clause-any_moment : goal.returns-in_err-finish-2-clause-any_moment
returns-in_err-finish-2-clause-any_moment g c =
    let s = g.E.Executor in
    λ clean disk left.
    let two = c.finish-2.ensures.guards clean in
    let entered = two.leaves.clean clean in
    let before = c.enter.ensures.crash.clean entered in
    guards-moment (IsOnTheWayBack c.args.work.now g.trees c.args.stage (s.state c.args.executor.now).disk)
    (s.state c.args.executor.now) (s.state c.finish-2.new.executor)
    (back-then c.args.work.now g.trees (c.requires.1.1.0 before) c.args.stage c.in-Some.back (sym c.in-Some.ensures.back)
    (s.state c.args.executor.now) (s.state c.enter.new.self) (s.state c.finish-2.new.executor) (c.requires.1.1.1.1 before)
    c.enter.ensures.crash (c.enter.ensures.tree entered) (c.enter.ensures.outcome entered) two)
    (g.met.E.Executor.only_now c.args.executor.now) disk left

pub returns-clause-guards : goal.returns-clause-guards
returns-clause-guards g c =
    let s = g.E.Executor in
    λ clean.
    let two = c.finish-2.ensures.guards clean in
    let entered = two.leaves.clean clean in
    let before = c.enter.ensures.crash.clean entered in
    back-then c.args.work.now g.trees (c.requires.1.1.0 before) c.args.stage c.in-Some.back (sym c.in-Some.ensures.back)
    (s.state c.args.executor.now) (s.state c.enter.new.self) (s.state c.finish-2.new.executor) (c.requires.1.1.1.1 before)
    c.enter.ensures.crash (c.enter.ensures.tree entered) (c.enter.ensures.outcome entered) two

pub returns-clause-any_moment : goal.returns-clause-any_moment
returns-clause-any_moment g c =
    let s = g.E.Executor in
    λ clean disk left.
    let two = c.finish-2.ensures.guards clean in
    let entered = two.leaves.clean clean in
    let before = c.enter.ensures.crash.clean entered in
    guards-moment (IsOnTheWayBack c.args.work.now g.trees c.args.stage (s.state c.args.executor.now).disk)
    (s.state c.args.executor.now) (s.state c.finish-2.new.executor)
    (back-then c.args.work.now g.trees (c.requires.1.1.0 before) c.args.stage c.in-Some.back (sym c.in-Some.ensures.back)
    (s.state c.args.executor.now) (s.state c.enter.new.self) (s.state c.finish-2.new.executor) (c.requires.1.1.1.1 before)
    c.enter.ensures.crash (c.enter.ensures.tree entered) (c.enter.ensures.outcome entered) two)
    (g.met.E.Executor.only_now c.args.executor.now) disk left

pub returns-in_err-finish-2-clause-keeps : goal.returns-in_err-finish-2-clause-keeps
returns-in_err-finish-2-clause-keeps g c =
    let s = g.E.Executor in
    λ clean back some.
    let two = c.finish-2.ensures.keeps clean in
    let entered = two.leaves.clean clean in
    subst
    (λ (b : Stage). Guards (KeepsDone c.args.work.now g.trees b (s.state c.args.executor.now).disk.tree)
    (s.state c.args.executor.now) (s.state c.finish-2.new.executor))
    (next_is c.in-Some.back back (c.in-Some.ensures.back ∙ some))
    (keeps-after c.args.work.now g.trees c.in-Some.back (s.state c.args.executor.now) (s.state c.enter.new.self)
    (s.state c.finish-2.new.executor) c.enter.ensures.crash (c.enter.ensures.tree entered) two)

pub returns-clause-keeps : goal.returns-clause-keeps
returns-clause-keeps g c =
    let s = g.E.Executor in
    λ clean back some.
    let two = c.finish-2.ensures.keeps clean in
    let entered = two.leaves.clean clean in
    subst
    (λ (b : Stage). Guards (KeepsDone c.args.work.now g.trees b (s.state c.args.executor.now).disk.tree)
    (s.state c.args.executor.now) (s.state c.finish-2.new.executor))
    (next_is c.in-Some.back back (c.in-Some.ensures.back ∙ some))
    (keeps-after c.args.work.now g.trees c.in-Some.back (s.state c.args.executor.now) (s.state c.enter.new.self)
    (s.state c.finish-2.new.executor) c.enter.ensures.crash (c.enter.ensures.tree entered) two)
