use Rattle.std.proofs.Common.{length}
use Rattle.relative_path.specs.Components.{components_left}
use Rattle.relative_path.specs.Steps.{components}
use Rattle.relative_path.proofs.PrefixingLemmas.{AgreesBack}
use Rattle.relative_path.proofs.prefixing.ends_with.Given as goal

abbrev pub invariant-loop-component : goal.invariant-loop-component
invariant-loop-component l =
    AgreesBack (components l.fn.text) (components l.fn.child) (components_left l.left)
    (components_left l.child_left)

abbrev pub decreases-loop-component : goal.decreases-loop-component
decreases-loop-component l = length (components_left l.child_left)
