-- The first piece of a text that is cut at a byte: its first line, or its first field.
use Rattle.std.proofs.Common.{◌≡◌, ◌≢◌, ℕ, ◌<◌, ◌≤◌, ◌==◌, Bool, true, false, List, [], ◌∷◌, ◌++◌, length, map, take, drop, set, get_or, Bor, Option, None, Some, refl, sym, ap, ◌∙◌, ◌+◌, append_assoc, arith, eqb-true, eq-eqb, ne_eqb, cond, eqb, not, take-append-drop}
use Rattle.std.proofs.lemmas.List.Folds.{prefix_len-append}
use Rattle.std.proofs.lemmas.List.{length-append, length-map, map-append, take_more_set}
use Rattle.std.proofs.lemmas.List.Elements.{All-from_get_or}
use Rattle.std.proofs.lemmas.List.Splits.{slice_split_none, slice_split_first, length-slice_split}
use Rattle.std.proofs.lemmas.List.Sums.{fails_before_first, passes_at_first, position_or_len_is, prefix_len-le-length}
use Rattle.std.specs.List.{slice_split, position_or_len}
use Rattle.memchr.specs.Find.{IsFirstByte, is_byte}
use Rattle.relpath_lib.specs.Lines.{is_line_feed, is_tab, without_empty_last, last_line, lines_of, fields_of, fields_left}

is_false : (b : Bool) → b ≢ true → b ≡ false
is_false true other = absurd (other refl)
is_false false other = refl

-- the first index at which the byte is, or the end
abbrev pub first : ℕ → List ℕ → ℕ
first byte = position_or_len (λ b. b == byte)

pub first-within : (byte : ℕ) (text : List ℕ) → first byte text ≤ length text
first-within byte text = prefix_len-le-length (λ b. not (b == byte)) text

-- where a search finds the byte is the first index at which it is
pub first-found : (byte : ℕ) (text : List ℕ) (at : ℕ) → IsFirstByte (is_byte byte) text (Some at) → at ≡ first byte text
first-found byte text at is =
    sym (position_or_len_is (λ b. b == byte) text at 0 (omega (arith, is.0.high))
    (λ k before. is_false (get_or text k 0 == byte) (is.0.before k (omega arith) before)) (λ _. is.1))

-- where a search finds nothing the first index is the end
pub first-nowhere : (byte : ℕ) (text : List ℕ) → IsFirstByte (is_byte byte) text None → length text ≡ first byte text
first-nowhere byte text none =
    sym (position_or_len_is (λ b. b == byte) text (length text) 0 (omega arith)
    (λ k before. is_false (get_or text k 0 == byte) (none k (omega arith) before)) (λ over. absurd (omega (arith, over))))

-- the byte is at its first index
pub first-holds : (byte : ℕ) (text : List ℕ) → first byte text < length text → get_or text (first byte text) 0 ≡ byte
first-holds byte text inside = eqb-true _ byte (passes_at_first (λ b. b == byte) text 0 inside)

cut : (byte n : ℕ) (text : List ℕ)
    → first byte text ≡ cond (eqb (first byte (take n text)) (length (take n text)))
    (length (take n text) + first byte (drop n text)) (first byte (take n text))
cut byte n text =
    ap (first byte) (sym (take-append-drop n text)) ∙ prefix_len-append (λ b. not (b == byte)) (take n text) (drop n text)

-- if the byte is in the text before an index, it is first there
pub first-near : (byte n : ℕ) (text : List ℕ) → first byte (take n text) < length (take n text)
    → first byte (take n text) ≡ first byte text
first-near byte n text inside =
    sym (cut byte n text ∙ ap (λ same. cond same (length (take n text) + first byte (drop n text)) (first byte (take n text)))
    (ne_eqb (first byte (take n text)) (length (take n text)) (λ same. absurd (omega (arith, inside, same)))))

-- if it isn't, it is first where it is first in the rest
pub first-far : (byte n : ℕ) (text : List ℕ) → first byte (take n text) ≡ length (take n text)
    → length (take n text) + first byte (drop n text) ≡ first byte text
first-far byte n text none =
    sym (cut byte n text ∙ ap (λ same. cond same (length (take n text) + first byte (drop n text)) (first byte (take n text)))
    (eq-eqb (first byte (take n text)) (length (take n text)) none))

-- a text in which the byte isn't is its only piece
pub slice_split-nowhere : (byte : ℕ) (text : List ℕ) → length text ≡ first byte text
    → slice_split (λ b. b == byte) text ≡ text ∷ []
slice_split-nowhere byte text none =
    slice_split_none (λ b. b == byte) text (All-from_get_or (λ b. (b == byte) ≡ false) text 0
    (λ i l. fails_before_first (λ b. b == byte) text i 0 (omega (arith, l, none))))

-- the text before the first index of the byte is the first piece
pub slice_split-first : (byte : ℕ) (text : List ℕ) → first byte text < length text
    → slice_split (λ b. b == byte) text
    ≡ take (first byte text) text ∷ slice_split (λ b. b == byte) (drop (first byte text + 1) text)
slice_split-first byte text inside = slice_split_first (λ b. b == byte) text 0 inside

without_empty_last-cons : (piece : List ℕ) (pieces : List (List ℕ)) → 0 < length pieces
    → without_empty_last (piece ∷ pieces) ≡ piece ∷ without_empty_last pieces
without_empty_last-cons piece [] some = absurd (omega arith)
without_empty_last-cons piece (next ∷ more) some = refl

last_line-some : (text : List ℕ) → 0 < length text → last_line text ≡ text ∷ []
last_line-some [] some = absurd (omega arith)
last_line-some (b ∷ text) some = refl

-- a text that is one piece is its only line
pub lines_of-last : (text : List ℕ) → slice_split is_line_feed text ≡ text ∷ [] → 0 < length text
    → lines_of text ≡ text ∷ lines_of []
lines_of-last text one some = ap without_empty_last one ∙ last_line-some text some

-- the first piece is the first line, if there is another
pub lines_of-next : (text line rest : List ℕ) → slice_split is_line_feed text ≡ line ∷ slice_split is_line_feed rest
    → lines_of text ≡ line ∷ lines_of rest
lines_of-next text line rest next =
    let some = length-slice_split is_line_feed rest in
    ap without_empty_last next ∙ without_empty_last-cons line (slice_split is_line_feed rest) (omega (arith, some))

-- one more field is written into the array
pub fields-more : (fields : List (List ℕ)) (room : List (Bor (List ℕ))) (count : ℕ) (field : Bor (List ℕ))
    (left rest : List (List ℕ)) → count < length room
    → fields ≡ map (λ field. field.now) (take count room) ++ left → left ≡ field.now ∷ rest
    → fields ≡ map (λ field. field.now) (take (count + 1) (set room count field)) ++ rest
fields-more fields room count field left rest l e next =
    rw (e, next, take_more_set room count field l, map-append, append_assoc) refl

-- if no text remains, fields were written
pub fields-some : (line : List ℕ) (shown : List (Bor (List ℕ))) (left : Option (Bor (List ℕ)))
    → fields_of line ≡ map (λ field. field.now) shown ++ fields_left left → left ≡ None → 0 < length shown
fields-some line shown left e none =
    let parts = length-append (map (λ field. field.now) shown) (fields_left left) in
    let nothing = ap (λ left. length (fields_left left)) none in
    omega (arith, ap length e, parts, nothing, length-map shown (λ field. field.now), length-slice_split is_tab line)
