-- The text so far, and the rest of the page with its edits, are the page with all.
use Rattle.std.proofs.Common.{◌≡◌, ◌++◌, length, string_bytes}
use Rattle.std.specs.Str.{IsCharBoundary}
use Rattle.relative_path_links.specs.Targets.{HasTargets}
use Rattle.relative_path_links.specs.Edits.{targets_of, with_edits}
use Rattle.relative_path_links.proofs.edit.edited.Given as goal

abbrev pub invariant-loop-edit : goal.invariant-loop-edit
invariant-loop-edit l = record {
  start : IsCharBoundary l.page l.at;
  rest : HasTargets l.page l.at (targets_of l.rest);
  text : string_bytes l.text ++ with_edits l.page l.at l.rest ≡ with_edits l.page 0 l.edits;
}

abbrev pub decreases-loop-edit : goal.decreases-loop-edit
decreases-loop-edit l = length l.rest
