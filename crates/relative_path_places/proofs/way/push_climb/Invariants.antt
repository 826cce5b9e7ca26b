-- The text spells the first components, and the `..` that are left are the others.
use Rattle.std.proofs.Common.{◌++◌, replicate}
use Rattle.relative_path.specs.Steps.{up, components}
use Rattle.relative_path_places.proofs.FrontTextLemmas.{IsFrontText}
use Rattle.relative_path_places.proofs.way.push_climb.Given as goal

abbrev pub invariant-loop-left : goal.invariant-loop-left
invariant-loop-left l =
    IsFrontText (components l.fn.way.text ++ replicate l.fn.climb up) l.way.text (replicate l.left up)

abbrev pub decreases-loop-left : goal.decreases-loop-left
decreases-loop-left l = l.left
