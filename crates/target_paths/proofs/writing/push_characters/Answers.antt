use Rattle.std.proofs.Common.{◌≡◌, ◌≤◌, ◌++◌, ℕ, List, [], ◌∷◌, length, drop, ap, refl, arith, length-append, ◌∙◌, string_bytes}
use Rattle.std.proofs.lemmas.Iterator.{YieldsList-from_chars}
use Rattle.std.proofs.lemmas.Iterator.Consumers.{YieldsList-turn, YieldsList-end}
use Rattle.std.proofs.lemmas.List.{length_push}
use Rattle.std.proofs.lemmas.Str.{encodes-chars}
use Rattle.std.specs.Str.{chars, encode_utf8_all}
use Rattle.target_paths.specs.Writing.{next_position, spelling_from, spelling, written_character}
use Rattle.target_paths.proofs.PartLemmas.{on_err, partly-next}
use Rattle.target_paths.proofs.WritingLemmas.{spelling_from-next, spelling_from-end}
use Rattle.target_paths.proofs.writing.push_characters.Goals as goal

-- a text with more at its end is no shorter
longer-append : (old kept piece new : List ℕ) → length old ≤ length kept → new ≡ kept ++ piece → length old ≤ length new
longer-append old kept piece new longer is = omega (arith, longer, ap length is, length-append kept piece)

pub loop-character-init : goal.loop-character-init
loop-character-init c = record {
  longer = omega arith;
  whole =
      ap (λ text. string_bytes c.args.target.now ++ spelling_from c.first-position.result text) (encodes-chars c.args.path.now c.utf8.path)
      ∙ ap (λ position. string_bytes c.args.target.now ++ spelling_from position c.args.path.now) c.first-position.ensures;
}

pub loop-character-preserved : goal.loop-character-preserved
loop-character-preserved c =
    let turn = YieldsList-turn (YieldsList-from_chars c.args.path.now c.utf8.path cc) c.loop-character.yielded _
    c.loop-character.yielded_by _ _ c.in-Some.character c.in-Some.is c.next.ensures.steps in
    let cs = chars c.args.path.now in
    let position = c.loop-character.position in
    let character = c.in-Some.character in
    let yielded = c.loop-character.yielded in
    let new = string_bytes c.push_character.new.target in
    record {
      longer =
          longer-append (string_bytes c.args.target.now) (string_bytes c.loop-character.target) (written_character position character)
          new c.loop-character.invariant.longer c.in_ok-push_character.ensures.text;
      whole =
          ap (λ p. new ++ spelling_from p (encode_utf8_all (drop (length (yielded ++ character ∷ [])) cs))) c.after-position.ensures
          ∙ spelling_from-next position cs (length yielded) character (length (yielded ++ character ∷ []))
          (string_bytes c.loop-character.target) new turn.0 turn.1 (length_push yielded character) c.in_ok-push_character.ensures.text
          ∙ c.loop-character.invariant.whole;
    }

pub returns-in_err-push_character-clause-err : goal.returns-in_err-push_character-clause-err
returns-in_err-push_character-clause-err c =
    let turn = YieldsList-turn (YieldsList-from_chars c.args.path.now c.utf8.path cc) c.loop-character.yielded _
    c.loop-character.yielded_by _ _ c.in-Some.character c.in-Some.is c.next.ensures.steps in
    let cs = chars c.args.path.now in
    let position = c.loop-character.position in
    let character = c.in-Some.character in
    let yielded = c.loop-character.yielded in
    let kept = string_bytes c.loop-character.target in
    let piece = written_character position character in
    on_err c.from_residual.result
    (partly-next (string_bytes c.args.target.now) kept (spelling c.args.path.now) piece
    (spelling_from (next_position position character) (encode_utf8_all (drop (length (yielded ++ character ∷ [])) cs)))
    (string_bytes c.push_character.new.target) c.loop-character.invariant.longer
    (spelling_from-next position cs (length yielded) character (length (yielded ++ character ∷ [])) kept (kept ++ piece)
    turn.0 turn.1 (length_push yielded character) refl
    ∙ c.loop-character.invariant.whole) c.in_err-push_character.ensures.err)

pub returns-clause-text : goal.returns-clause-text
returns-clause-text c =
    let end = YieldsList-end (YieldsList-from_chars c.args.path.now c.utf8.path cc) c.loop-character.yielded _
    c.loop-character.yielded_by _ _ c.in-None.is c.next.ensures.steps in
    spelling_from-end c.loop-character.position (chars c.args.path.now) (length c.loop-character.yielded)
    (string_bytes c.loop-character.target) (string_bytes c.args.target.now ++ spelling c.args.path.now) end.1
    c.loop-character.invariant.whole
