use Rattle.std.proofs.Common.{◌≡◌, length}
use Rattle.relative_path.specs.Unix.{unix_components, without_shared}
use Rattle.relative_path.specs.UnixComponents.{unix_left}
use Rattle.relative_path.proofs.unix_components.without_shared.Given as goal

abbrev pub invariant-loop-ours : goal.invariant-loop-ours
invariant-loop-ours l =
    without_shared (unix_left l.left.0) (unix_left l.left.1) ≡ without_shared (unix_components l.fn.path) (unix_components l.fn.root)

abbrev pub decreases-loop-ours : goal.decreases-loop-ours
decreases-loop-ours l = length (unix_left l.left.0)
