-- The directories so far are above the path, which goes on from what is left of it. They are all that are as long as
-- what is left, or longer.
use Rattle.std.proofs.Common.{◌≡◌, ◌++◌, All, List, length}
use Rattle.relative_path.specs.Steps.{Step}
use Rattle.relative_path_places.specs.Views.{view_components}
use Rattle.relmove_steps.specs.Directories.{HasDirectory}
use Rattle.relmove_steps.proofs.DirectoriesLemmas.{HaveFrontsFrom}
use Rattle.relmove_steps.proofs.directories.directories_above.Given as goal

abbrev pub invariant-loop-directory : goal.invariant-loop-directory
invariant-loop-directory l = record {
  above : All (λ directory. HasDirectory (view_components l.path) (view_components directory)) l.directories.items;
  rest : List Step;
  split : view_components l.path ≡ view_components l.left ++ rest;
  all : HaveFrontsFrom (view_components l.path) (view_components l.left) l.directories.items;
}

abbrev pub decreases-loop-directory : goal.decreases-loop-directory
decreases-loop-directory l = length (view_components l.left)
