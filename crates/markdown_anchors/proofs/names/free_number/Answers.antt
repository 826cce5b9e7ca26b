-- The name with this number is taken too.
use Rattle.std.proofs.Common.{◌≡◌, sym, ap, ◌∙◌, arith}
use Rattle.markdown_anchors.specs.Names.{numbered}
use Rattle.markdown_anchors.specs.Taken.{is_taken}
use Rattle.markdown_anchors.proofs.NamesLemmas.{below_or_not}
use Rattle.markdown_anchors.proofs.names.free_number.Goals as goal

pub loop-number-preserved : goal.loop-number-preserved
loop-number-preserved c = λ n late less.
    let taken = c.args.taken.now in
    let slug = c.args.slug.now in
    below_or_not n c.loop-number.number (c.loop-number.invariant n late)
    (λ here.
    let is : n ≡ c.loop-number.number = omega (arith, here, less) in
    ap (λ m. is_taken taken (numbered slug m)) is
    ∙ ap (is_taken taken) (sym (c.as_str.ensures.value ∙ c.in_ok-name.ensures))
    ∙ sym c.contains_key.ensures ∙ c.if-not-contains_key.false)
