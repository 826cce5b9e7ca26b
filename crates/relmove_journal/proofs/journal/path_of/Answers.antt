use Rattle.std.proofs.Common.{true, false, [], ◌∷◌, ◌++◌, drop, length, sym, ap, subst, ◌∙◌, arith, string_bytes}
use Rattle.std.proofs.lemmas.Iterator.{YieldsList-from_chars}
use Rattle.std.proofs.lemmas.Iterator.Consumers.{YieldsList-turn, YieldsList-end}
use Rattle.std.proofs.lemmas.List.{drop_all, length_push}
use Rattle.std.specs.Str.{chars}
use lib.Utf8.{encode}
use Rattle.relmove_journal.proofs.FieldLemmas.{Err-no_value, IsReadSoFar, IsReadSoFar-backslash, IsReadSoFar-end, IsReadSoFar-escape, IsReadSoFar-none, IsReadSoFar-plain, IsReadSoFar-whole, Ok-value, StandsFor-gives, drop-turn}
use Rattle.relmove_journal.proofs.journal.path_of.Goals as goal

pub loop-character-init : goal.loop-character-init
loop-character-init c = λ path utf8 is. IsReadSoFar-none c.args.field.now path _ utf8 is c.new-path.ensures.bytes

pub returns-in_err-unescape : goal.returns-in_err-unescape
returns-in_err-unescape c = λ path utf8 is.
    let turn = YieldsList-turn (YieldsList-from_chars c.args.field.now c.utf8.field cc) c.loop-character.yielded _
    c.loop-character.yielded_by _ _ c.in-Some.character c.in-Some.is c.next.ensures.steps in
    let cs = chars c.args.field.now in
    let yielded = c.loop-character.yielded in
    let character = c.in-Some.character in
    let so_far = string_bytes c.loop-character.path in
    let next = drop-turn cs (length yielded) character (length (yielded ++ character ∷ [])) turn (length_push yielded character) in
    let read = subst (λ l. IsReadSoFar true l so_far path) next
    (subst (λ b. IsReadSoFar b (drop (length yielded) cs) so_far path) c.if-is_escaped.true (c.loop-character.invariant path utf8 is)) in
    let (stands_for, stands, after) = IsReadSoFar-escape character _ so_far path read in
    absurd (Err-no_value _ stands_for (StandsFor-gives character stands_for _ stands c.in_err-unescape.ensures.backslash
    c.in_err-unescape.ensures.tab c.in_err-unescape.ensures.line_feed))

pub loop-character-preserved-then-is_escaped : goal.loop-character-preserved-then-is_escaped
loop-character-preserved-then-is_escaped c = λ path utf8 is.
    let turn = YieldsList-turn (YieldsList-from_chars c.args.field.now c.utf8.field cc) c.loop-character.yielded _
    c.loop-character.yielded_by _ _ c.in-Some.character c.in-Some.is c.next.ensures.steps in
    let cs = chars c.args.field.now in
    let yielded = c.loop-character.yielded in
    let character = c.in-Some.character in
    let so_far = string_bytes c.loop-character.path in
    let next = drop-turn cs (length yielded) character (length (yielded ++ character ∷ [])) turn (length_push yielded character) in
    let read = subst (λ l. IsReadSoFar true l so_far path) next
    (subst (λ b. IsReadSoFar b (drop (length yielded) cs) so_far path) c.if-is_escaped.true (c.loop-character.invariant path utf8 is)) in
    let (stands_for, stands, after) = IsReadSoFar-escape character _ so_far path read in
    let value = Ok-value _ stands_for (StandsFor-gives character stands_for _ stands c.in_ok-unescape.ensures.backslash
    c.in_ok-unescape.ensures.tab c.in_ok-unescape.ensures.line_feed) in
    after _ (c.in_ok-push.ensures.bytes ∙ ap (λ v. so_far ++ encode v) value)

pub loop-character-preserved-then-character-eq92 : goal.loop-character-preserved-then-character-eq92
loop-character-preserved-then-character-eq92 c = λ path utf8 is.
    let turn = YieldsList-turn (YieldsList-from_chars c.args.field.now c.utf8.field cc) c.loop-character.yielded _
    c.loop-character.yielded_by _ _ c.in-Some.character c.in-Some.is c.next.ensures.steps in
    let cs = chars c.args.field.now in
    let yielded = c.loop-character.yielded in
    let character = c.in-Some.character in
    let so_far = string_bytes c.loop-character.path in
    let next = drop-turn cs (length yielded) character (length (yielded ++ character ∷ [])) turn (length_push yielded character) in
    IsReadSoFar-backslash character _ so_far path c.if-character-eq92.true
    (subst (λ l. IsReadSoFar false l so_far path) next
    (subst (λ b. IsReadSoFar b (drop (length yielded) cs) so_far path) c.if-is_escaped.false (c.loop-character.invariant path utf8 is)))

pub loop-character-preserved : goal.loop-character-preserved
loop-character-preserved c = λ path utf8 is.
    let turn = YieldsList-turn (YieldsList-from_chars c.args.field.now c.utf8.field cc) c.loop-character.yielded _
    c.loop-character.yielded_by _ _ c.in-Some.character c.in-Some.is c.next.ensures.steps in
    let cs = chars c.args.field.now in
    let yielded = c.loop-character.yielded in
    let character = c.in-Some.character in
    let so_far = string_bytes c.loop-character.path in
    let next = drop-turn cs (length yielded) character (length (yielded ++ character ∷ [])) turn (length_push yielded character) in
    subst (λ b. IsReadSoFar b (drop (length (yielded ++ character ∷ [])) cs) (string_bytes c.push-else-character-eq92.new.self) path)
    (sym c.if-is_escaped.false)
    (IsReadSoFar-plain character _ so_far _ path c.if-character-eq92.false c.in_ok-push-2.ensures.bytes
    (subst (λ l. IsReadSoFar false l so_far path) next
    (subst (λ b. IsReadSoFar b (drop (length yielded) cs) so_far path) c.if-is_escaped.false (c.loop-character.invariant path utf8 is))))

pub returns-then-is_escaped-2 : goal.returns-then-is_escaped-2
returns-then-is_escaped-2 c = λ path utf8 is.
    let end = YieldsList-end (YieldsList-from_chars c.args.field.now c.utf8.field cc) c.loop-character.yielded _
    c.loop-character.yielded_by _ _ c.in-None.is c.next.ensures.steps in
    let cs = chars c.args.field.now in
    let none = drop_all (length c.loop-character.yielded) cs (omega (arith, end.1)) in
    absurd (IsReadSoFar-whole _ path (subst (λ l. IsReadSoFar true l (string_bytes c.loop-character.path) path) none
    (subst (λ b. IsReadSoFar b (drop (length c.loop-character.yielded) cs) (string_bytes c.loop-character.path) path)
    c.if-is_escaped-2.true (c.loop-character.invariant path utf8 is))))

pub returns : goal.returns
returns c = λ path utf8 is.
    let end = YieldsList-end (YieldsList-from_chars c.args.field.now c.utf8.field cc) c.loop-character.yielded _
    c.loop-character.yielded_by _ _ c.in-None.is c.next.ensures.steps in
    let cs = chars c.args.field.now in
    let none = drop_all (length c.loop-character.yielded) cs (omega (arith, end.1)) in
    IsReadSoFar-end _ path (subst (λ l. IsReadSoFar false l (string_bytes c.loop-character.path) path) none
    (subst (λ b. IsReadSoFar b (drop (length c.loop-character.yielded) cs) (string_bytes c.loop-character.path) path)
    c.if-is_escaped-2.false (c.loop-character.invariant path utf8 is)))
