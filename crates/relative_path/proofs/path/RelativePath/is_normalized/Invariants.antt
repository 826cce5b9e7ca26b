use Rattle.std.proofs.Common.{◌↔◌}
use Rattle.relative_path.specs.Components.{components_left}
use Rattle.relative_path.specs.Normalizing.{IsNormal}
use Rattle.relative_path.specs.RelativePath.{path_components}
use Rattle.relative_path.proofs.NormalStepsLemmas.{IsNormalAfter}
use Rattle.relative_path.proofs.path.RelativePath.is_normalized.Given as goal

abbrev pub invariant-loop-component : goal.invariant-loop-component
invariant-loop-component l =
    IsNormal (path_components l.fn.self) ↔ IsNormalAfter l.after_name (components_left l.component-iterator)
