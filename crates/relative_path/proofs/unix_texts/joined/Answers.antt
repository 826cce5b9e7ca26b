use Rattle.std.proofs.Common.{◌∙◌, refl, sym, ap, length, string_bytes, arith}
use Rattle.relative_path.specs.Components.{components_left, step_of}
use Rattle.relative_path.specs.Writing.{with_piece}
use Rattle.relative_path.specs.Unix.{onto}
use Rattle.relative_path.specs.Steps.{slashed_len}
use Rattle.relative_path.proofs.SpellingLemmas.{slashed_len-components}
use Rattle.relative_path.proofs.WritingLemmas.{length-with_step_le}
use Rattle.relative_path.proofs.unix_texts.joined.Goals as goal

pub loop-component-init : goal.loop-component-init
loop-component-init c =
    rw
    (c.into_iter-component-iterator.ensures.into_iter_gives, c.new-component-items.ensures, c.in_ok-text.ensures.text) (
      refl,
      omega (arith, slashed_len-components c.args.path.now, c.in_ok-text.ensures.room),
    )

pub add_piece-requires : goal.add_piece-requires
add_piece-requires c =
    let text = string_bytes c.loop-component.text in
    let first = ap slashed_len c.in-Some.ensures.steps.0 in
    let piece = ap (λ p. length (with_piece text p)) c.as_str.ensures in
    omega (arith, c.loop-component.invariant.1, first, piece, length-with_step_le text (step_of c.in-Some.component))

pub loop-component-preserved : goal.loop-component-preserved
loop-component-preserved c =
    let text = string_bytes c.loop-component.text in
    let before = c.loop-component.invariant in
    let first = c.in-Some.ensures.steps.0 in
    let added = c.add_piece.ensures.text ∙ ap (with_piece text) c.as_str.ensures in
    let joined = ap (λ t. onto t (components_left c.next.new.self)) added ∙ sym (ap (onto text) first) in (
      joined ∙ before.0,
      omega (
        arith,
        before.1,
        ap slashed_len first,
        ap length added,
        length-with_step_le text (step_of c.in-Some.component),
        c.add_piece.ensures.room,
      ),
    )
