use Rattle.std.proofs.Common.{◌≤◌, ◌∙◌, [], ◌∷◌, fold, map, ap, arith, rules}
use Rattle.std.proofs.lemmas.List.{map_push}
use Rattle.std.proofs.lemmas.List.Sums.{fold-append}
use Rattle.relative_path.specs.Editing.{pushed}
use Rattle.relative_path.specs.RelativePath.{path_text}
use Rattle.relative_path.specs.Pushing.{PushesUntilFull}
use Rattle.relative_path.proofs.PushingLemmas.{PushesWholeRun-from, StopsRun-from}
use Rattle.relative_path.proofs.buf.RelativePathBuf.extend.Goals as goal

pub returns-in_err-push-clause-stops : goal.returns-in_err-push-clause-stops
returns-in_err-push-clause-stops g c =
    let becomes = g.I.IntoIterator.into_iter_gives in
    let steps = g.I.IntoIter.Iterator.next_gives in
    let old = c.args.self.now in
    let new = c.push.new.self in
    let before = c.loop-path.invariant.1 in
    let room : old.room ≤ new.room = omega (arith, c.push.ensures.room) in
    let refused : PushesUntilFull becomes steps c.args.paths old new = search rules in
    let stops = StopsRun-from becomes steps c.args.paths old new room refused in
    search rules

pub loop-path-preserved : goal.loop-path-preserved
loop-path-preserved g c =
    let old = c.args.self.now.text in
    let path = path_text c.in-Some.path in
    let before = c.loop-path.invariant in
    let all = ap (fold pushed old) (map_push path_text c.loop-path.yielded c.in-Some.path)
    ∙ fold-append pushed old (map path_text c.loop-path.yielded) (path ∷ []) in
    (rw all (c.in_ok-push.ensures.ok ∙ ap (λ text. pushed text path) before.0), omega (arith, before.1, c.push.ensures.room))

pub returns-clause-ok : goal.returns-clause-ok
returns-clause-ok g c =
    let made = c.into_iter-path-iterator in (
      made.result,
      c.loop-path.yielded,
      made.ensures.into_iter_gives,
      (c.next.new.self, (c.loop-path.path-iterator, c.loop-path.yielded_by, c.in-None.ensures.steps)),
      c.loop-path.invariant.0,
    )

pub returns-clause-runs : goal.returns-clause-runs
returns-clause-runs g c =
    let becomes = g.I.IntoIterator.into_iter_gives in
    let steps = g.I.IntoIter.Iterator.next_gives in
    PushesWholeRun-from becomes steps c.args.paths c.args.self.now.text c.loop-path.self.text (returns-clause-ok g c)
