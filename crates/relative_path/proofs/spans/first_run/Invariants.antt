use Rattle.std.proofs.Common.{All, length}
use Rattle.relative_path.specs.Spans.{CutsName, IsFirstRun}
use Rattle.relative_path.specs.declared.spans.Sources.{Sources}
use Rattle.relative_path.proofs.spans.first_run.Given as goal

abbrev pub invariant-loop-name : goal.invariant-loop-name
invariant-loop-name l = (sources : Sources) → All (CutsName sources) l.names → IsFirstRun sources l.names l.run l.left

abbrev pub decreases-loop-name : goal.decreases-loop-name
decreases-loop-name l = length l.left
