-- What is left of the reference and the `..` so far lead to what is left of the target.
use Rattle.std.proofs.Common.{length, ◌+◌, ◌≤◌}
use Rattle.relative_path.specs.Components.{components_left}
use Rattle.relative_path.specs.RelativePath.{path_text, path_components}
use Rattle.relative_path_moves.proofs.LeadingLemmas.{IsBack}
use Rattle.relative_path_moves.proofs.leading.before_reference.Given as goal

abbrev pub invariant-loop-component : goal.invariant-loop-component
invariant-loop-component l = record {
  back : IsBack (path_components l.fn.reference) (path_components l.fn.file) (components_left l.reference_left) l.climb
      (components_left l.left);
  fits : l.climb + length (components_left l.reference_left) ≤ length (path_text l.fn.reference);
}

abbrev pub decreases-loop-component : goal.decreases-loop-component
decreases-loop-component l = length (components_left l.reference_left)
