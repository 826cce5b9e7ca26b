-- Searches that pass over bytes at which nothing happens.
use Rattle.std.proofs.Common.{◌≡◌, ℕ, suc, ◌+◌, ◌<◌, Bool, true, false, not, cond, ◌==◌, ◌&&◌, List, [], ◌∷◌, length, take, drop, slice_index, get_or, Option, Some, if◌then◌else◌, nat_eq, refl, sym, ap, ap₂, subst, ◌∙◌, arith}
use Rattle.std.proofs.lemmas.Bool.Decides.{nat_tests}
use Rattle.std.proofs.lemmas.List.{drop_more, drop-drop}
use Rattle.std.specs.Char.{is_ascii_punctuation}
use Rattle.std.specs.Cmp.Lexicographic.{pointwise}
use Rattle.std.specs.List.{position_or_len}
use Rattle.markdown_targets.specs.Classes.{is_destination_mark}
use Rattle.markdown_targets.specs.Destinations.{stops, depth_after, end_at, end_of}
use Rattle.markdown_targets.specs.Offsets.{first_from, escape_or_byte_len}
use Rattle.markdown_targets.specs.Words.{begins_with, word_end}

-- what is found from an offset on is found from the first byte of a class on, if no other byte changes it
module _ (find : ℕ → List ℕ → Option ℕ) (p : ℕ → Bool)
    (passes : (at b : ℕ) (bs : List ℕ) → p b ≡ false → find at (b ∷ bs) ≡ find (at + 1) bs) where
  -- the same is found after some bytes
  abbrev IsFoundAfter : ℕ → List ℕ → ℕ → Type 0
  IsFoundAfter at text n = find at text ≡ find (at + n) (drop n text)

  passes-first : (at : ℕ) (text : List ℕ) → IsFoundAfter at text (position_or_len p text)
  passes-first at [] = ap (λ n. find n []) (omega arith)
  passes-first at (b ∷ bs) = of (p b) refl (passes-first (at + 1) bs) where
    of : (t : Bool) → p b ≡ t → IsFoundAfter (at + 1) bs (position_or_len p bs)
        → IsFoundAfter at (b ∷ bs) (cond (not (p b)) (1 + position_or_len p bs) 0)
    of true is others =
        subst (λ t. IsFoundAfter at (b ∷ bs) (cond (not t) (1 + position_or_len p bs) 0)) (sym is)
        (ap (λ n. find n (b ∷ bs)) (omega arith))
    of false is others =
        let n = position_or_len p bs in
        let next : suc n ≡ 1 + n = omega arith in
        let later : at + 1 + n ≡ at + suc n = omega arith in
        subst (λ t. IsFoundAfter at (b ∷ bs) (cond (not t) (1 + n) 0)) (sym is)
        (subst (IsFoundAfter at (b ∷ bs)) next
        (passes at b bs is ∙ others ∙ ap (λ m. find m (drop (position_or_len p bs) bs)) later))

-- no word begins before its first byte
word_end-cons : (first : ℕ) (word : List ℕ) (at : ℕ) (text : List ℕ)
    → word_end (first ∷ word) at text
    ≡ word_end (first ∷ word) (at + position_or_len (λ b. b == first) text) (drop (position_or_len (λ b. b == first) text) text)
word_end-cons first word =
    passes-first (word_end (first ∷ word)) (λ b. b == first)
    (λ at b bs other.
    ap (λ t. if t && pointwise nat_eq (take (length word) bs) word then Some (at + length (first ∷ word))
    else word_end (first ∷ word) (at + 1) bs) other)

pub word_end-first : (word text : List ℕ) (first from at d : ℕ) → 0 < length word → first ≡ get_or word 0 d
    → at ≡ first_from (λ b. b == first) text from → word_end word from (drop from text) ≡ word_end word at (drop at text)
word_end-first [] text first from at d some is found = absurd (omega (arith, some))
word_end-first (b ∷ bs) text first from at d some is found =
    let n = position_or_len (λ b. b == first) (drop from text) in
    ap (λ b. word_end (b ∷ bs) from (drop from text)) (sym is)
    ∙ word_end-cons first bs from (drop from text)
    ∙ ap₂ (λ m l. word_end (first ∷ bs) m l) (sym found) (drop-drop n from text ∙ ap (λ m. drop m text) (sym found))
    ∙ ap (λ b. word_end (b ∷ bs) at (drop at text)) is

-- no word begins at an offset
pub word_end-later : (word text : List ℕ) (k : ℕ) → k < length text → begins_with word (drop k text) ≡ false
    → word_end word k (drop k text) ≡ word_end word (k + 1) (drop (k + 1) text)
word_end-later word text k inside none =
    let front = drop_more text k 0 inside in
    ap (word_end word k) front
    ∙ ap (λ t. if t then Some (k + length word) else word_end word (k + 1) (drop (k + 1) text))
    (sym (ap (begins_with word) front) ∙ none)

-- a word begins at an offset
pub word_end-here : (word text : List ℕ) (k : ℕ) → k < length text → begins_with word (drop k text) ≡ true
    → word_end word k (drop k text) ≡ Some (k + length word)
word_end-here word text k inside is =
    let front = drop_more text k 0 inside in
    ap (word_end word k) front
    ∙ ap (λ t. if t then Some (k + length word) else word_end word (k + 1) (drop (k + 1) text))
    (sym (ap (begins_with word) front) ∙ is)

-- nothing but a mark changes where a destination ends
end_of-mark : (depth at : ℕ) (text : List ℕ)
    → end_of false depth at text
    ≡ end_of false depth (at + position_or_len is_destination_mark text) (drop (position_or_len is_destination_mark text) text)
end_of-mark depth =
    passes-first (end_of false depth) is_destination_mark
    (λ at b bs other.
    let goes_on : stops depth b ≡ false = grind (arith, nat_tests) in
    let unescaped : (b == 92) ≡ false = grind (arith, nat_tests) in
    let same : depth_after depth b ≡ depth = grind (arith, nat_tests) in
    ap (λ t. if t then end_at depth at else end_of (b == 92) (depth_after depth b) (at + 1) bs) goes_on
    ∙ ap₂ (λ t d. end_of t d (at + 1) bs) unescaped same)

pub end_of-first : (depth from at : ℕ) (text : List ℕ) → at ≡ first_from is_destination_mark text from
    → end_of false depth from (drop from text) ≡ end_of false depth at (drop at text)
end_of-first depth from at text found =
    end_of-mark depth from (drop from text)
    ∙ ap₂ (λ m l. end_of false depth m l) (sym found)
    (drop-drop (position_or_len is_destination_mark (drop from text)) from text ∙ ap (λ m. drop m text) (sym found))

-- a backslash escapes only punctuation
end_of-unescaped : (depth at : ℕ) (text : List ℕ) → is_ascii_punctuation (slice_index text 0) ≡ false
    → end_of true depth at text ≡ end_of false depth at text
end_of-unescaped depth at [] is = refl
end_of-unescaped depth at (b ∷ bs) is =
    ap (λ t. if t then end_of false depth (at + 1) bs
    else if stops depth b then end_at depth at else end_of (b == 92) (depth_after depth b) (at + 1) bs) is

-- how many bytes an escape or a byte has
abbrev len_of : Bool → Bool → ℕ
len_of t u = if t && u then 2 else 1

-- the destination goes on after a byte, or after an escape
end_of-escape_or_byte : (depth at b : ℕ) (bs : List ℕ) → stops depth b ≡ false
    → end_of false depth at (b ∷ bs)
    ≡ end_of false (depth_after depth b) (at + escape_or_byte_len (b ∷ bs)) (drop (escape_or_byte_len (b ∷ bs)) (b ∷ bs))
end_of-escape_or_byte depth at b bs goes_on =
    ap (λ t. if t then end_at depth at else end_of (b == 92) (depth_after depth b) (at + 1) bs) goes_on
    ∙ of (b == 92) (is_ascii_punctuation (slice_index bs 0)) bs refl where
      of : (t u : Bool) (rest : List ℕ) → is_ascii_punctuation (slice_index rest 0) ≡ u
          → end_of t (depth_after depth b) (at + 1) rest
          ≡ end_of false (depth_after depth b) (at + len_of t u) (drop (len_of t u) (b ∷ rest))
      of false u rest is = refl
      of true false rest is = end_of-unescaped (depth_after depth b) (at + 1) rest is
      of true true [] is = absurd (cc)
      of true true (e ∷ es) is =
          let d = depth_after depth b in
          let far : at + 1 + 1 ≡ at + 2 = omega arith in
          ap (λ t. if t then end_of false d (at + 1 + 1) es
          else if stops d e then end_at d (at + 1) else end_of (e == 92) (depth_after d e) (at + 1 + 1) es) is
          ∙ ap (λ n. end_of false (depth_after depth b) n es) far

pub end_of-next : (depth k next at : ℕ) (text : List ℕ) → k < length text → stops depth (get_or text k 0) ≡ false
    → next ≡ k + escape_or_byte_len (drop k text) → at ≡ first_from is_destination_mark text next
    → end_of false depth k (drop k text) ≡ end_of false (depth_after depth (get_or text k 0)) at (drop at text)
end_of-next depth k next at text inside goes_on skipped found =
    let b = get_or text k 0 in
    let front = drop_more text k 0 inside in
    ap (end_of false depth k) front
    ∙ end_of-escape_or_byte depth k b (drop (k + 1) text) goes_on
    ∙ ap (λ l. end_of false (depth_after depth b) (k + escape_or_byte_len l) (drop (escape_or_byte_len l) l)) (sym front)
    ∙ ap₂ (λ m l. end_of false (depth_after depth b) m l) (sym skipped)
    (drop-drop (escape_or_byte_len (drop k text)) k text ∙ ap (λ m. drop m text) (sym skipped))
    ∙ end_of-first (depth_after depth b) next at text found
