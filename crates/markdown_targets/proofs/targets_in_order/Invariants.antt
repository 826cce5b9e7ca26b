-- The targets so far are spans of the page, and end at byte `at` at the latest.
use Rattle.std.proofs.Common.{map}
use Rattle.markdown_targets.proofs.SpansLemmas.{AreSoFar}
use Rattle.markdown_targets.proofs.targets_in_order.Given as goal

abbrev pub invariant-loop-target : goal.invariant-loop-target
invariant-loop-target l = AreSoFar l.page (map (λ target. target.span) l.targets.items) l.at
