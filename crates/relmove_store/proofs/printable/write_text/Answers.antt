use Rattle.std.proofs.Common.{[], ◌∷◌, ◌++◌, length, refl, sym, ap, ◌∙◌, append_assoc, append-nil, rules}
use Rattle.std.proofs.Output.{has_written_append, has_written_of_eq, writes_in_calls_nil}
use Rattle.std.proofs.lemmas.Iterator.{YieldsList-from_chars}
use Rattle.std.proofs.lemmas.Iterator.Consumers.{YieldsList-turn, YieldsList-end}
use Rattle.std.proofs.lemmas.List.{length_push}
use Rattle.std.specs.Str.{chars}
use Rattle.relmove_store.specs.Printing.{printed_character}
use Rattle.relmove_journal.proofs.ForCallers.{flat_map-end, flat_map-turn}
use Rattle.relmove_store.proofs.printable.write_text.Goals as goal

pub loop-character-init : goal.loop-character-init
loop-character-init g c = λ plain. ([], record { wrote = writes_in_calls_nil _ _; plain = plain }, refl)

pub loop-character-preserved : goal.loop-character-preserved
loop-character-preserved g c = λ plain.
    let turn = YieldsList-turn (YieldsList-from_chars c.args.text.now c.utf8.text cc) c.loop-character.yielded _
    c.loop-character.yielded_by _ _ c.in-Some.character c.in-Some.is c.next.ensures.steps in
    let cs = chars c.args.text.now in
    let character = c.in-Some.character in
    let yielded = c.loop-character.yielded in
    let now = c.loop-character.invariant plain in (
      now.0 ++ printed_character character,
      has_written_append _ _ _ _ _ _ now.1 (search rules),
      append_assoc now.0 (printed_character character) _
          ∙ ap (λ l. now.0 ++ l) (flat_map-turn printed_character cs (length yielded) character
          (length (yielded ++ character ∷ [])) turn (length_push yielded character))
          ∙ now.2,
    )

pub returns : goal.returns
returns g c = λ plain _.
    let end = YieldsList-end (YieldsList-from_chars c.args.text.now c.utf8.text cc) c.loop-character.yielded _
    c.loop-character.yielded_by _ _ c.in-None.is c.next.ensures.steps in
    let cs = chars c.args.text.now in
    let now = c.loop-character.invariant plain in
    has_written_of_eq _ _ _ _ _
    (sym (append-nil now.0)
    ∙ ap (λ l. now.0 ++ l) (sym (flat_map-end printed_character cs (length c.loop-character.yielded) end.1))
    ∙ now.2) now.1
