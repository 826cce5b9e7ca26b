-- At first there is no text.
use Rattle.std.proofs.Common.{◌++◌, ap}
use Rattle.std.proofs.lemmas.Str.{IsCharBoundary-start}
use Rattle.relative_path_links.specs.Edits.{with_edits}
use Rattle.relative_path_links.proofs.edit.edited.Goals as goal

pub loop-edit-init : goal.loop-edit-init
loop-edit-init c = record {
  start = IsCharBoundary-start c.args.page.now c.utf8.page;
  rest = c.requires.targets;
  text = ap (λ text. text ++ with_edits c.args.page.now 0 c.args.edits.now) c.in_ok-text.ensures.bytes;
}
