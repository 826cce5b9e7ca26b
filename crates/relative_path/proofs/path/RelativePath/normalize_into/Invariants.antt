-- What is written is normal; with the components that are left it leads where the path leads, and fits the capacity.
use Rattle.std.proofs.Common.{◌≤◌, length}
use Rattle.relative_path.specs.Components.{components_left}
use Rattle.relative_path.specs.RelativePath.{path_text, path_components}
use Rattle.relative_path.proofs.NormalizingLemmas.{Normalizes}
use Rattle.relative_path.proofs.path.RelativePath.normalize_into.Given as goal

abbrev pub invariant-loop-component : goal.invariant-loop-component
invariant-loop-component l = record {
  normalizes : Normalizes (path_components l.fn.self) (length (path_text l.fn.self)) l.out.text
      (components_left l.component-iterator);
  fits : length (path_text l.fn.self) ≤ l.out.room;
  room : l.fn.out.room ≤ l.out.room;
}
