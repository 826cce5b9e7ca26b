-- The text spells the first components, and those that are left are the others.
use Rattle.std.proofs.Common.{◌++◌}
use Rattle.relative_path.specs.Steps.{components}
use Rattle.relative_path.specs.Components.{components_left}
use Rattle.relative_path.specs.RelativePath.{path_components}
use Rattle.relative_path_places.proofs.FrontTextLemmas.{IsFrontText}
use Rattle.relative_path_places.proofs.way.push_components.Given as goal

abbrev pub invariant-loop-component : goal.invariant-loop-component
invariant-loop-component l =
    IsFrontText (components l.fn.way.text ++ path_components l.fn.path) l.way.text (components_left l.component-iterator)
