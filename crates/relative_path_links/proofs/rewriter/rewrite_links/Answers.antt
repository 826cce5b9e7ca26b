-- Each turn adds the edit of the next target.
use Rattle.std.proofs.Common.{[], ◌∷◌, ◌++◌, ap, append_assoc, ◌∙◌}
use Rattle.std.proofs.lemmas.List.{map_push}
use Rattle.std.proofs.lemmas.List.Elements.{All-push}
use Rattle.relative_path_links.specs.Edits.{IsGivenUp, targets_of}
use Rattle.relative_path_links.specs.Rewriter.{Becomes}
use Rattle.relative_path_links.specs.SiteRoot.{page_moving}
use Rattle.relative_path_links.specs.declared.edit.Edit.{Edit}
use Rattle.relative_path_links.proofs.rewriter.rewrite_links.Goals as goal

pub loop-target-preserved : goal.loop-target-preserved
loop-target-preserved c =
    let first = c.in-Some.ensures.cases.0 in
    let (at, has) = c.loop-target.invariant.rest in
    let (after, is, others) = rw first at has in
    let edits = c.loop-target.edits.items in
    let edit = c.in_ok-edit_of.field-0 in
    record {
      rest = (c.in-Some.target.now.end, others);
      targets =
          ap (λ items. targets_of items ++ c.in-Some.others.now) c.in_ok-push.ensures.items
          ∙ ap (λ targets. targets ++ c.in-Some.others.now) (map_push (λ (edit : Edit). edit.target) edits edit)
          ∙ append_assoc (targets_of edits) (edit.target ∷ []) c.in-Some.others.now
          ∙ ap (λ target. targets_of edits ++ target ∷ c.in-Some.others.now) c.in_ok-edit_of.ensures.target
          ∙ (rw first at c.loop-target.invariant.targets);
      changes =
          rw c.in_ok-push.ensures.items
          (All-push (Becomes (page_moving c.args.root.now c.args.moves.now c.args.moved.now) c.args.page.now) edits edit
          c.loop-target.invariant.changes c.in_ok-edit_of.ensures.becomes);
      new =
          rw c.in_ok-push.ensures.items
          (All-push (λ (edit : Edit). ¬ IsGivenUp edit.change) edits edit c.loop-target.invariant.new
          c.in_ok-edit_of.ensures.new);
    }
