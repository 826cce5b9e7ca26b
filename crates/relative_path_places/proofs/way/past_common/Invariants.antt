-- What is left comes after a front that both begin with.
use Rattle.std.proofs.Common.{length}
use Rattle.relative_path.specs.RelativePath.{path_components}
use Rattle.relative_path_places.proofs.WayLemmas.{HaveFront}
use Rattle.relative_path_places.proofs.way.past_common.Given as goal

abbrev pub invariant-loop-from_rest : goal.invariant-loop-from_rest
invariant-loop-from_rest l =
    HaveFront (path_components l.fn.from) (path_components l.fn.to) (path_components l.from) (path_components l.to)

abbrev pub decreases-loop-from_rest : goal.decreases-loop-from_rest
decreases-loop-from_rest l = length (path_components l.from)
