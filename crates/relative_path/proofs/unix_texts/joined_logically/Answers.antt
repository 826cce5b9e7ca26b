use Rattle.std.proofs.Common.{ap, length, arith, string_bytes}
use Rattle.relative_path.specs.Steps.{name, slashed_len}
use Rattle.std.proofs.lemmas.Str.{IsUtf8-string_bytes}
use Rattle.relative_path.proofs.SlicesLemmas.{IsPrefix, IsCharBoundary-IsPrefix}
use Rattle.relative_path.proofs.SpellingLemmas.{slashed_len-components}
use Rattle.relative_path.proofs.WritingLemmas.{length-with_step_le}
use Rattle.relative_path.proofs.unix_texts.joined_logically.Goals as goal

pub loop-component-init : goal.loop-component-init
loop-component-init c =
    rw
    (c.into_iter-component-iterator.ensures.into_iter_gives, c.new-component-items.ensures, c.in_ok-text.ensures.text) (
      λ end leads. leads,
      omega (arith, slashed_len-components c.args.path.now, c.in_ok-text.ensures.room),
    )

pub truncate-requires : goal.truncate-requires
truncate-requires c =
    let front : IsPrefix (string_bytes c.loop-component.text) c.parent_text-parent_len.result.now =
    rw (← c.as_str.ensures.value) (record { front = c.parent_text-parent_len.ensures.prefix }) in
    let boundary =
    IsCharBoundary-IsPrefix front (IsUtf8-string_bytes c.loop-component.text) c.parent_text-parent_len.utf8 in
    λ _. (boundary.0, λ _. boundary.1)

pub add_piece-requires : goal.add_piece-requires
add_piece-requires c =
    let text = string_bytes c.loop-component.text in
    let first = ap slashed_len (rw c.in-Normal.is at c.in-Some.ensures.steps.0) in
    omega (arith, c.loop-component.invariant.1, first, length-with_step_le text (name c.in-Normal.name.now))

pub loop-component-preserved : goal.loop-component-preserved
loop-component-preserved c =
    let text = string_bytes c.loop-component.text in
    let before = c.loop-component.invariant in
    let first = rw c.in-Normal.is at c.in-Some.ensures.steps.0 in
    let added = c.add_piece.ensures.text in (
      λ end leads. before.0 end (rw first (rw added at leads)),
      omega (
        arith,
        before.1,
        ap slashed_len first,
        ap length added,
        length-with_step_le text (name c.in-Normal.name.now),
        c.add_piece.ensures.room,
      ),
    )
