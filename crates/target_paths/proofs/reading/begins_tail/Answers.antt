use Rattle.std.proofs.Common.{◌≡◌, ◌∙◌, ap, sym, arith, nat_eq}
use Rattle.std.proofs.lemmas.Bool.Decides.{nat_tests}
use Rattle.target_paths.specs.Reading.{is_tail_byte, begins_tail}
use Rattle.target_paths.specs.Shown.{read_bytes}
use Rattle.target_paths.proofs.ReadingLemmas.{begins_tail-character, begins_tail-pair}
use Rattle.target_paths.proofs.reading.begins_tail.Goals as goal

pub returns-else-character-eq35 : goal.returns-else-character-eq35
returns-else-character-eq35 c =
    let here : nat_eq c.in-Character.character 63 ≡ is_tail_byte c.in-Character.character = grind (arith, nat_tests) in
    here
    ∙ sym (begins_tail-character c.in-Character.character)
    ∙ ap (λ read. begins_tail (read_bytes read)) (sym c.in-Character.is)

pub returns-in-Pair : goal.returns-in-Pair
returns-in-Pair c =
    sym (begins_tail-pair c.in-Pair.field-0 c.in-Pair.field-1) ∙ ap (λ read. begins_tail (read_bytes read)) (sym c.in-Pair.is)
