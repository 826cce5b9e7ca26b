-- The climb so far, the names that a `..` can leave, and the components that are left give the climb of the whole path.
use Rattle.std.proofs.Common.{◌≡◌, ◌+◌, ◌≤◌, length}
use Rattle.relative_path.specs.Components.{components_left}
use Rattle.relative_path.specs.RelativePath.{path_text, path_components}
use Rattle.relative_path.proofs.ClimbingLemmas.{climb_after}
use Rattle.relative_path.proofs.path.RelativePath.climb.Given as goal

abbrev pub invariant-loop-component : goal.invariant-loop-component
invariant-loop-component l = record {
  comes_to : climb_after l.climb l.names (components_left l.component-iterator) ≡ climb_after 0 0 (path_components l.fn.self);
  fits : l.climb + l.names + length (components_left l.component-iterator) ≤ length (path_text l.fn.self);
}
