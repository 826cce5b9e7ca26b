use Rattle.std.proofs.Common.{◌≡◌, ◌+◌, ◌∙◌, IsTrue, arith}
use Rattle.relmove_journal.specs.declared.work.Stage.TheVariants.{Writing}
use Rattle.relmove_stages.specs.Runs.{IsOnTheWay, IsOnTheWayFrom}
use Rattle.relmove_stages.specs.States.{IsEndKnown}
use Rattle.relmove_stages.proofs.BeginLemmas.{after_halt-more, begin-guards, begun-then, way-writing, wrote-guards}
use Rattle.relmove_stages.proofs.MachineLemmas.{if_err-map}
use Rattle.relmove_stages.proofs.StateLemmas.{guards-moment}
use Rattle.relmove_stages.proofs.beginning.carry_out.Goals as goal

pub end_at_once-requires : goal.end_at_once-requires
end_at_once-requires g c κs within = (search, (search, (known, (way, tree))))
  where
    known : IsTrue (g.E.Executor.state c.begin.new.self).is_clean → IsEndKnown (g.E.Executor.state c.begin.new.self)
    known clean = c.begin.ensures.known clean (c.requires.1.1.1.1.0 (c.begin.ensures.crash.clean clean))

    way : IsTrue (g.E.Executor.state c.begin.new.self).is_clean
        → IsOnTheWayFrom c.args.work.now g.trees Writing (g.E.Executor.state c.begin.new.self).disk
    way clean =
        let before = c.begin.ensures.crash.clean clean in
        (begin-guards c.args.work.now g.trees (g.E.Executor.state c.args.executor.now) (g.E.Executor.state c.begin.new.self)
        (c.requires.1.1.1.1.0 before) (c.requires.1.1.1.1.1 before) c.begin.ensures.crash (c.begin.ensures.tree clean)
        (c.begin.ensures.outcome clean)).way

    tree : IsTrue (g.E.Executor.state c.begin.new.self).is_clean
        → (g.E.Executor.state c.begin.new.self).disk.tree ≡ g.trees.before
    tree clean = c.begin.ensures.tree clean ∙ c.requires.1.1.1.1.1 (c.begin.ensures.crash.clean clean)

pub returns-in-Err-clause-guards : goal.returns-in-Err-clause-guards
returns-in-Err-clause-guards g c =
    let s = g.E.Executor in
    λ clean.
    let two = c.end_at_once.ensures.guards clean in
    let begun = two.leaves.clean clean in
    let before = c.begin.ensures.crash.clean begun in
    begun-then c.args.work.now g.trees (IsOnTheWayFrom c.args.work.now g.trees Writing) (s.state c.args.executor.now)
    (s.state c.begin.new.self) (s.state c.end_at_once.new.executor) (way-writing c.args.work.now g.trees)
    (begin-guards c.args.work.now g.trees (s.state c.args.executor.now) (s.state c.begin.new.self) (c.requires.1.1.1.1.0 before)
    (c.requires.1.1.1.1.1 before) c.begin.ensures.crash (c.begin.ensures.tree begun) (c.begin.ensures.outcome begun)) two

pub returns-in-Err-clause-any_moment : goal.returns-in-Err-clause-any_moment
returns-in-Err-clause-any_moment g c =
    let s = g.E.Executor in
    λ clean disk left.
    let two = c.end_at_once.ensures.guards clean in
    let begun = two.leaves.clean clean in
    let before = c.begin.ensures.crash.clean begun in
    guards-moment (IsOnTheWay c.args.work.now g.trees) (s.state c.args.executor.now) (s.state c.end_at_once.new.executor)
    (begun-then c.args.work.now g.trees (IsOnTheWayFrom c.args.work.now g.trees Writing) (s.state c.args.executor.now)
    (s.state c.begin.new.self) (s.state c.end_at_once.new.executor) (way-writing c.args.work.now g.trees)
    (begin-guards c.args.work.now g.trees (s.state c.args.executor.now) (s.state c.begin.new.self) (c.requires.1.1.1.1.0 before)
    (c.requires.1.1.1.1.1 before) c.begin.ensures.crash (c.begin.ensures.tree begun) (c.begin.ensures.outcome begun)) two)
    (g.met.E.Executor.only_now c.args.executor.now) disk left

pub returns-in-Err-write_texts-clause-guards : goal.returns-in-Err-write_texts-clause-guards
returns-in-Err-write_texts-clause-guards g c =
    let s = g.E.Executor in
    λ clean.
    let three = c.take_back.ensures.guards clean in
    let wrote = three.leaves.clean clean in
    let two = c.write_texts.ensures.guards wrote in
    let begun = two.leaves.clean wrote in
    let before = c.begin.ensures.crash.clean begun in
    let one =
    wrote-guards c.args.work.now g.trees (s.state c.args.executor.now) (s.state c.begin.new.self) (s.state c.write_texts.new.executor)
    (begin-guards c.args.work.now g.trees (s.state c.args.executor.now) (s.state c.begin.new.self) (c.requires.1.1.1.1.0 before)
    (c.requires.1.1.1.1.1 before) c.begin.ensures.crash (c.begin.ensures.tree begun) (c.begin.ensures.outcome begun)) two in
    begun-then c.args.work.now g.trees (IsOnTheWayFrom c.args.work.now g.trees Writing) (s.state c.args.executor.now)
    (s.state c.write_texts.new.executor) (s.state c.take_back.new.executor) (way-writing c.args.work.now g.trees) one three

pub returns-in-Err-write_texts-clause-any_moment : goal.returns-in-Err-write_texts-clause-any_moment
returns-in-Err-write_texts-clause-any_moment g c =
    let s = g.E.Executor in
    λ clean disk left.
    let three = c.take_back.ensures.guards clean in
    let wrote = three.leaves.clean clean in
    let two = c.write_texts.ensures.guards wrote in
    let begun = two.leaves.clean wrote in
    let before = c.begin.ensures.crash.clean begun in
    let one =
    wrote-guards c.args.work.now g.trees (s.state c.args.executor.now) (s.state c.begin.new.self) (s.state c.write_texts.new.executor)
    (begin-guards c.args.work.now g.trees (s.state c.args.executor.now) (s.state c.begin.new.self) (c.requires.1.1.1.1.0 before)
    (c.requires.1.1.1.1.1 before) c.begin.ensures.crash (c.begin.ensures.tree begun) (c.begin.ensures.outcome begun)) two in
    guards-moment (IsOnTheWay c.args.work.now g.trees) (s.state c.args.executor.now) (s.state c.take_back.new.executor)
    (begun-then c.args.work.now g.trees (IsOnTheWayFrom c.args.work.now g.trees Writing) (s.state c.args.executor.now)
    (s.state c.write_texts.new.executor) (s.state c.take_back.new.executor) (way-writing c.args.work.now g.trees) one three)
    (g.met.E.Executor.only_now c.args.executor.now) disk left

pub returns-clause-guards : goal.returns-clause-guards
returns-clause-guards g c =
    let s = g.E.Executor in
    λ clean.
    let three = c.go_on.ensures.guards clean in
    let wrote = three.leaves.clean clean in
    let two = c.write_texts.ensures.guards wrote in
    let begun = two.leaves.clean wrote in
    let before = c.begin.ensures.crash.clean begun in
    let one =
    wrote-guards c.args.work.now g.trees (s.state c.args.executor.now) (s.state c.begin.new.self) (s.state c.write_texts.new.executor)
    (begin-guards c.args.work.now g.trees (s.state c.args.executor.now) (s.state c.begin.new.self) (c.requires.1.1.1.1.0 before)
    (c.requires.1.1.1.1.1 before) c.begin.ensures.crash (c.begin.ensures.tree begun) (c.begin.ensures.outcome begun)) two in
    begun-then c.args.work.now g.trees (IsOnTheWay c.args.work.now g.trees) (s.state c.args.executor.now)
    (s.state c.write_texts.new.executor) (s.state c.go_on.new.executor) (λ disk way. way) one three

pub returns-clause-any_moment : goal.returns-clause-any_moment
returns-clause-any_moment g c =
    let s = g.E.Executor in
    λ clean disk left.
    let three = c.go_on.ensures.guards clean in
    let wrote = three.leaves.clean clean in
    let two = c.write_texts.ensures.guards wrote in
    let begun = two.leaves.clean wrote in
    let before = c.begin.ensures.crash.clean begun in
    let one =
    wrote-guards c.args.work.now g.trees (s.state c.args.executor.now) (s.state c.begin.new.self) (s.state c.write_texts.new.executor)
    (begin-guards c.args.work.now g.trees (s.state c.args.executor.now) (s.state c.begin.new.self) (c.requires.1.1.1.1.0 before)
    (c.requires.1.1.1.1.1 before) c.begin.ensures.crash (c.begin.ensures.tree begun) (c.begin.ensures.outcome begun)) two in
    guards-moment (IsOnTheWay c.args.work.now g.trees) (s.state c.args.executor.now) (s.state c.go_on.new.executor)
    (begun-then c.args.work.now g.trees (IsOnTheWay c.args.work.now g.trees) (s.state c.args.executor.now)
    (s.state c.write_texts.new.executor) (s.state c.go_on.new.executor) (λ disk way. way) one three)
    (g.met.E.Executor.only_now c.args.executor.now) disk left

pub returns-in-Err-clause-halts : goal.returns-in-Err-clause-halts
returns-in-Err-clause-halts g c =
    let s = g.E.Executor in
    λ clean.
    let begun = (c.end_at_once.ensures.guards clean).leaves.clean clean in
    let failed = c.in-Err.ensures.cause begun (c.requires.1.1.1.1.0 (c.begin.ensures.crash.clean begun)) in
    after_halt-more c.args.work.now g.trees ((s.state c.args.executor.now).faults + 1) (s.state c.begin.new.self).faults
    (s.state c.end_at_once.new.executor) c.end_at_once.result (omega (arith, failed)) (c.end_at_once.ensures.halts clean)

pub returns-in-Err-write_texts-clause-halts : goal.returns-in-Err-write_texts-clause-halts
returns-in-Err-write_texts-clause-halts g c =
    let s = g.E.Executor in
    λ clean.
    let wrote = (c.take_back.ensures.guards clean).leaves.clean clean in
    let less = c.begin.ensures.crash.no_less in
    let failed = c.in-Err-write_texts.ensures.cause wrote in
    after_halt-more c.args.work.now g.trees ((s.state c.args.executor.now).faults + 1) (s.state c.write_texts.new.executor).faults
    (s.state c.take_back.new.executor) c.take_back.result (omega (arith, less, failed)) (c.take_back.ensures.halts clean)

pub returns-clause-halts : goal.returns-clause-halts
returns-clause-halts g c =
    let s = g.E.Executor in
    if_err-map _ _ c.go_on.result (λ halt is clean.
    let wrote = (c.go_on.ensures.guards clean).leaves.clean clean in
    let less = c.begin.ensures.crash.no_less in
    let less_2 = (c.write_texts.ensures.guards wrote).leaves.no_less in
    after_halt-more c.args.work.now g.trees ((s.state c.args.executor.now).faults + 1)
    ((s.state c.write_texts.new.executor).faults + 1)
    (s.state c.go_on.new.executor) halt (omega (arith, less, less_2)) (is clean)) c.go_on.ensures.halts
