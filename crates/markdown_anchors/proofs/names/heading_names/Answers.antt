-- One more slug has its name.
use Rattle.std.proofs.Common.{◌≡◌, ◌+◌, [], ◌∷◌, ◌++◌, map, take, sym, ap, ◌∙◌, string_bytes}
use Rattle.std.proofs.lemmas.List.{take_more, map-append}
use Rattle.markdown_anchors.proofs.NamesLemmas.{AreSoFar-next}
use Rattle.markdown_anchors.proofs.names.heading_names.Goals as goal

pub loop-slug-preserved : goal.loop-slug-preserved
loop-slug-preserved c =
    let k = c.loop-slug.slug-index in
    let slugs = c.args.slugs.now in
    let slug = c.slug-item.result in
    let name = c.in_ok-take_name.field-0 in
    let slugs_are : map string_bytes (take (k + 1) slugs) ≡ map string_bytes (take k slugs) ++ (c.as_str.result.now ∷ []) =
    ap (map string_bytes) (take_more slugs k slug c.loop-slug-test.true)
    ∙ ap (λ s. map string_bytes (take k slugs ++ (s ∷ []))) (sym c.slug-item.is)
    ∙ map-append string_bytes (take k slugs) (slug ∷ [])
    ∙ ap (λ s. map string_bytes (take k slugs) ++ (s ∷ [])) (sym c.as_str.ensures.value) in
    let names_are : map string_bytes c.push.new.self.items ≡ map string_bytes c.loop-slug.names.items ++ (string_bytes name ∷ []) =
    ap (map string_bytes) c.in_ok-push.ensures.items ∙ map-append string_bytes c.loop-slug.names.items (name ∷ []) in
    rw (slugs_are, names_are) (AreSoFar-next (map string_bytes (take k slugs)) (map string_bytes c.loop-slug.names.items)
    c.as_str.result.now (string_bytes name) c.loop-slug.taken c.take_name.new.taken c.loop-slug.invariant c.in_ok-take_name.ensures)
