use Rattle.std.proofs.Common.{◌≡◌, length}
use Rattle.target_paths.specs.Url.{without_leading}
use Rattle.target_paths.proofs.url.without_leading.Given as goal

abbrev pub invariant-loop-left : goal.invariant-loop-left
invariant-loop-left l = without_leading l.left ≡ without_leading l.text

abbrev pub decreases-loop-left : goal.decreases-loop-left
decreases-loop-left l = length l.left
