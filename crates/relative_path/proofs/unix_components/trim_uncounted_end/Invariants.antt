use Rattle.std.proofs.Common.{length}
use Rattle.relative_path.specs.Components.{text_left, components_left}
use Rattle.relative_path.proofs.UnixComponentsLemmas.{LosesUncounted}
use Rattle.relative_path.proofs.unix_components.trim_uncounted_end.Given as goal

abbrev pub invariant-loop-components : goal.invariant-loop-components
invariant-loop-components l = LosesUncounted l.fn.rooted l.fn.text (text_left l.components)

abbrev pub decreases-loop-components : goal.decreases-loop-components
decreases-loop-components l = length (components_left l.components)
