-- The targets have the spans that were found.
use Rattle.std.proofs.Common.{map, subst, sym, ◌∙◌, ap}
use Rattle.markdown_targets.specs.Spans.{AreInOrder}
use Rattle.relative_path_links.proofs.TargetsLemmas.{IfOk-all, HasTargets-spans}
use Rattle.relative_path_links.proofs.finder.targets.Goals as goal

pub returns : goal.returns
returns c = record {
  in_order = IfOk-all c.with_syntax.result
      (λ targets spans. HasTargets-spans c.args.page.now 0 targets.items
      (subst (AreInOrder c.args.page.now 0) (sym (spans ∙ ap (map (λ link. link.span)) c.deref.ensures.value))
      c.in_ok-found.ensures.in_order))
      c.with_syntax.ensures;
}
