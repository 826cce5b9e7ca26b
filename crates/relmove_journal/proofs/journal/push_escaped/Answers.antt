use Rattle.std.proofs.Common.{[], ◌∷◌, ◌++◌, length, drop, sym, ap, ◌∙◌, append_assoc, append-nil, string_bytes}
use Rattle.std.proofs.lemmas.Iterator.{YieldsList-from_chars}
use Rattle.std.proofs.lemmas.Iterator.Consumers.{YieldsList-turn, YieldsList-end}
use Rattle.std.proofs.lemmas.List.{length_push}
use Rattle.std.specs.List.{flat_map}
use Rattle.std.specs.Str.{chars}
use Rattle.relmove_journal.specs.Journals.{escaped_character}
use Rattle.relmove_journal.proofs.ForCallers.{flat_map-end, flat_map-turn}
use Rattle.relmove_journal.proofs.journal.push_escaped.Goals as goal

pub loop-character-preserved : goal.loop-character-preserved
loop-character-preserved c =
    let turn = YieldsList-turn (YieldsList-from_chars c.args.field.now c.utf8.field cc) c.loop-character.yielded _
    c.loop-character.yielded_by _ _ c.in-Some.character c.in-Some.is c.next.ensures.steps in
    let cs = chars c.args.field.now in
    let character = c.in-Some.character in
    let yielded = c.loop-character.yielded in
    let more = length (yielded ++ character ∷ []) in
    let old = string_bytes c.loop-character.text in
    ap (λ t. t ++ flat_map escaped_character (drop more cs)) c.in_ok-push_character.ensures
    ∙ append_assoc old (escaped_character character) (flat_map escaped_character (drop more cs))
    ∙ ap (λ l. old ++ l)
    (flat_map-turn escaped_character cs (length yielded) character more turn (length_push yielded character))
    ∙ c.loop-character.invariant

pub returns : goal.returns
returns c =
    let end = YieldsList-end (YieldsList-from_chars c.args.field.now c.utf8.field cc) c.loop-character.yielded _
    c.loop-character.yielded_by _ _ c.in-None.is c.next.ensures.steps in
    let cs = chars c.args.field.now in
    let text = string_bytes c.loop-character.text in
    sym (append-nil text)
    ∙ ap (λ l. text ++ l) (sym (flat_map-end escaped_character cs (length c.loop-character.yielded) end.1))
    ∙ c.loop-character.invariant
