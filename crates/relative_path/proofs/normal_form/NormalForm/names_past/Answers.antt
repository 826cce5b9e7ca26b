use Rattle.std.proofs.Common.{ap, sym, ◌∙◌, map, drop}
use Rattle.std.proofs.lemmas.List.{take_rest, drop-map}
use Rattle.relative_path.specs.Spans.{span_text}
use Rattle.relative_path.proofs.normal_form.NormalForm.names_past.Goals as goal

pub returns-clause-names : goal.returns-clause-names
returns-clause-names c =
    let f = span_text c.args.self.now.sources in
    let items = c.deref.result.now in
    ap (map f) (take_rest items c.args.skipped) ∙ sym (drop-map f c.args.skipped items)
    ∙ ap (λ spans. drop c.args.skipped (map f spans)) c.deref.ensures.value
