use Rattle.std.proofs.Common.{◌∙◌, refl, ap₂}
use Rattle.relative_path.specs.Unix.{without_shared}
use Rattle.relative_path.proofs.UnixComponentsLemmas.{without_shared-both}
use Rattle.relative_path.proofs.unix_components.without_shared.Goals as goal

pub loop-ours-init : goal.loop-ours-init
loop-ours-init c = ap₂ without_shared c.new.ensures c.new-2.ensures

pub loop-ours-preserved : goal.loop-ours-preserved
loop-ours-preserved c =
    let ours = rw c.in-Some-Some.is-0 at c.next.ensures.steps in
    let theirs = rw c.in-Some-Some.is-1 at c.next-in-loop-ours.ensures.steps in
    let same = rw (c.in-Some-Some.ours-is, c.in-Some-Some.theirs-is) at c.if-eq.ensures.same.0 refl in
    without_shared-both _ _ _ _ _ _ ours theirs same ∙ c.loop-ours.invariant
