-- The targets so far have their edits.
use Rattle.std.proofs.Common.{◌≡◌, ◌++◌, ℕ, length}
use Rattle.std.specs.List.{All}
use Rattle.relative_path_links.specs.Targets.{HasTargets}
use Rattle.relative_path_links.specs.Edits.{IsGivenUp, targets_of}
use Rattle.relative_path_links.specs.Rewriter.{Becomes}
use Rattle.relative_path_links.specs.SiteRoot.{page_moving}
use Rattle.relative_path_links.proofs.rewriter.rewrite_links.Given as goal

abbrev pub invariant-loop-target : goal.invariant-loop-target
invariant-loop-target l = record {
  rest : (at : ℕ) × HasTargets l.page at l.rest;
  targets : targets_of l.edits.items ++ l.rest ≡ l.targets;
  changes : All (Becomes (page_moving l.root l.moves l.moved) l.page) l.edits.items;
  new : All (λ edit. ¬ IsGivenUp edit.change) l.edits.items;
}

abbrev pub decreases-loop-target : goal.decreases-loop-target
decreases-loop-target l = length l.rest
