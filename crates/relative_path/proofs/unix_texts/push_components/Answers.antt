use Rattle.std.proofs.Common.{arith, ap, length, string_bytes}
use Rattle.relative_path.specs.Writing.{with_piece}
use Rattle.relative_path.specs.Components.{step_of}
use Rattle.relative_path.specs.Steps.{step_text}
use Rattle.relative_path.specs.Unix.{onto}
use Rattle.relative_path.specs.UnixComponents.{unix_left}
use Rattle.relative_path.proofs.UnixTextsLemmas.{length-onto_le}
use Rattle.relative_path.proofs.unix_texts.push_components.Goals as goal

pub add_piece-requires : goal.add_piece-requires
add_piece-requires c =
    let text = string_bytes c.loop-component.text in
    let before = c.loop-component.invariant in
    let first = ap (λ cs. length (onto text cs)) c.in-Some.ensures.steps in
    let piece = ap (λ p. length (with_piece text p)) c.as_str.ensures in
    let shorter = length-onto_le (with_piece text (step_text (step_of c.in-Some.component))) (unix_left c.next.new.self) in
    omega (arith, c.requires, ap length before.0, before.1, first, piece, shorter)
