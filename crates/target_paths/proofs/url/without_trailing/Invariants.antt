use Rattle.std.proofs.Common.{◌≡◌, length}
use Rattle.target_paths.specs.Url.{without_trailing}
use Rattle.target_paths.proofs.url.without_trailing.Given as goal

abbrev pub invariant-loop-left : goal.invariant-loop-left
invariant-loop-left l = without_trailing l.left ≡ without_trailing l.text

abbrev pub decreases-loop-left : goal.decreases-loop-left
decreases-loop-left l = length l.left
