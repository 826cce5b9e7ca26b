-- The number that the index has for the path is that of the entry that is there.
use Rattle.std.proofs.Common.{map}
use Rattle.relative_path.specs.Steps.{components}
use Rattle.relative_path.proofs.ForCallers.{IsSame-refl}
use Rattle.relative_path_places.specs.Views.{view_components}
use Rattle.relmove_checks.specs.Trees.{is_barrier}
use Rattle.relmove_checks.proofs.AboveLemmas.{HasAt-none, HasAt-number}
use Rattle.relmove_checks.proofs.refused.has_barrier_at.Goals as goal

pub returns-in-Some : goal.returns-in-Some
returns-in-Some c = λ tree known.
    let cs = view_components c.args.path in
    let first = c.in-Some.ensures.found (map components known.after) cs known.indexes (IsSame-refl cs) in
    HasAt-number (is_barrier c.args.barrier) tree c.args.entries.now c.args.after.now known cs c.in-Some.number c.is_barrier_at.result first
    c.is_barrier_at.ensures

pub returns-in-None : goal.returns-in-None
returns-in-None c = λ tree known.
    let cs = view_components c.args.path in
    HasAt-none (is_barrier c.args.barrier) tree c.args.entries.now c.args.after.now known cs
    (c.in-None.ensures.found (map components known.after) cs known.indexes (IsSame-refl cs))
