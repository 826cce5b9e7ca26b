use Rattle.std.proofs.Common.{List, ℕ, subst}
use Rattle.relative_path.specs.Pushing.{PushesAll, PushesWholeRun}
use Rattle.relative_path.proofs.buf.RelativePathBuf.from_paths.Goals as goal

pub returns-clause-runs : goal.returns-clause-runs
returns-clause-runs g c =
    let becomes = g.I.IntoIterator.into_iter_gives in
    let steps = g.I.IntoIter.Iterator.next_gives in
    let runs = c.in_ok-extend.ensures.runs in
    subst
    (λ (old : List ℕ). PushesWholeRun becomes steps c.args.paths old c.extend.new.self.text) c.new-buf.ensures runs

pub returns-clause-ok : goal.returns-clause-ok
returns-clause-ok g c =
    let becomes = g.I.IntoIterator.into_iter_gives in
    let steps = g.I.IntoIter.Iterator.next_gives in
    let all = c.in_ok-extend.ensures.ok in
    subst (λ (old : List ℕ). PushesAll becomes steps c.args.paths old c.extend.new.self.text) c.new-buf.ensures all
