-- The `..` that are left lead from the directory above to where all of them lead from the directory.
use Rattle.relative_path.specs.RelativePath.{path_components}
use Rattle.relative_path_moves.proofs.LeadingLemmas.{IsUp}
use Rattle.relative_path_moves.proofs.leading.climbs_to.Given as goal

abbrev pub invariant-loop-climb : goal.invariant-loop-climb
invariant-loop-climb l =
    IsUp (path_components l.fn.directory) (path_components l.above) l.fn.climb l.climb

abbrev pub decreases-loop-climb : goal.decreases-loop-climb
decreases-loop-climb l = l.climb
