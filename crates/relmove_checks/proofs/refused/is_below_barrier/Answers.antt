-- Each turn takes the last component off, and asks what is there.
use Rattle.relative_path_places.specs.Views.{view_components}
use Rattle.relmove_checks.specs.Trees.{is_barrier}
use Rattle.relmove_checks.proofs.AboveLemmas.{IsClearFrom-next, IsClearFrom-end, HasAbove-here}
use Rattle.relmove_checks.proofs.refused.is_below_barrier.Goals as goal

pub returns-then-has_barrier_at : goal.returns-then-has_barrier_at
returns-then-has_barrier_at c = λ tree known.
    let (some, ends) = c.in-Some.ensures in
    let (last, is) = ends in
    HasAbove-here (is_barrier c.args.barrier) tree c.args.entries.now (view_components c.args.path)
    (view_components c.loop-directory.left) (view_components c.in-Some.directory) last (c.loop-directory.invariant tree known) is some
    (rw c.if-has_barrier_at.true at (c.has_barrier_at.ensures tree known))

pub loop-directory-preserved : goal.loop-directory-preserved
loop-directory-preserved c = λ tree known.
    let (some, ends) = c.in-Some.ensures in
    let (last, is) = ends in
    IsClearFrom-next (is_barrier c.args.barrier) tree c.args.entries.now (view_components c.args.path)
    (view_components c.loop-directory.left) (view_components c.in-Some.directory) last (c.loop-directory.invariant tree known) is
    (rw c.if-has_barrier_at.false at (c.has_barrier_at.ensures tree known))

pub returns : goal.returns
returns c = λ tree known.
    IsClearFrom-end (is_barrier c.args.barrier) tree c.args.entries.now (view_components c.args.path)
    (view_components c.loop-directory.left) c.in_default.ensures (c.loop-directory.invariant tree known)
