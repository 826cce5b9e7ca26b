-- What is written for characters.
use Rattle.std.proofs.Common.{◌≡◌, ℕ, suc, ◌+◌, ◌<◌, ◌≤◌, Bool, true, false, nat_lt, if◌then◌else◌, List, [], ◌∷◌, ◌++◌, length, drop, get_or, Some, None, ◌≢◌, lit<, ne_eqb, refl, sym, ap, ap₂, ◌∙◌, arith, append-nil, append_assoc}
use Rattle.std.proofs.lemmas.Bool.{and_parts, not-true, or_parts}
use Rattle.std.proofs.lemmas.Bool.Decides.{nat_tests}
use Rattle.std.proofs.lemmas.Str.{encode_ascii, length-encode, len_utf8_bounds, inside_one}
use Rattle.std.proofs.lemmas.List.{at_drop_more, drop_all}
use Rattle.std.proofs.lemmas.Str.Pattern.{drop_at_char}
use Rattle.std.specs.Char.{encode_utf8}
use Rattle.std.specs.List.{list_all}
use Rattle.std.specs.Str.{encode_utf8_all}
use Rattle.std.specs.Str.Pattern.{FindsCharPrefix, IsTrimStartMatches, CutsPrefixes, IsFullyTrimmed}
use Rattle.target_paths.specs.declared.path_position.PathPosition.{PathPosition}
use Rattle.target_paths.specs.declared.path_position.PathPosition.TheVariants.{Start, Mark, FirstSegment, AfterSlash}
use Rattle.target_paths.specs.Url.{slash, is_slash, is_colon}
use Rattle.target_paths.proofs.PiecesLemmas.{from_byte, from_byte-drop}
use Rattle.target_paths.specs.Writing.{is_always_escaped, is_escaped, is_unescaped, first_position, spelling, next_position, percent_text, written_byte, written_character, spelling_from, without_slashes}

-- each byte is past ASCII
abbrev ArePastAscii : List ℕ → Type 0
ArePastAscii [] = Unit {0}
ArePastAscii (b ∷ bs) = (128 ≤ b) × ArePastAscii bs

from_reads : (bs : List ℕ) → ((k : ℕ) → k < length bs → 128 ≤ get_or bs k 0) → ArePastAscii bs
from_reads [] reads = tt
from_reads (b ∷ bs) reads = (reads 0 (omega arith), from_reads bs (λ k inside. reads (suc k) (omega (arith, inside))))

encode-past_ascii : (c : ℕ) → 128 ≤ c → ArePastAscii (encode_utf8 c)
encode-past_ascii c past = from_reads (encode_utf8 c) reads where
  high : (b : ℕ) → (b < 128 → c ≡ b) → 128 ≤ b
  high b same = of (nat_lt b 128) refl where
    of : (t : Bool) → nat_lt b 128 ≡ t → 128 ≤ b
    of true below =
        let low : b < 128 = grind (arith, nat_tests) in
        let is : c ≡ b = same low in absurd (omega (arith, is, low))
    of false above = grind (arith, nat_tests)

  reads : (k : ℕ) → k < length (encode_utf8 c) → 128 ≤ get_or (encode_utf8 c) k 0
  reads k inside =
      high (get_or (encode_utf8 c) k 0)
      (λ low. inside_one c [] (encode_utf8 c) k (sym (append-nil (encode_utf8 c))) inside low)

past_ascii-kept : (position : PathPosition) (b : ℕ) → 128 ≤ b → is_escaped position b ≡ false
past_ascii-kept Start b past = grind (arith, nat_tests)
past_ascii-kept Mark b past = grind (arith, nat_tests)
past_ascii-kept FirstSegment b past = grind (arith, nat_tests)
past_ascii-kept AfterSlash b past = grind (arith, nat_tests)

-- no byte past ASCII is escaped
next_position-past : (position : PathPosition) (b c : ℕ) → 128 ≤ b → 128 ≤ c
    → next_position position b ≡ next_position position c
next_position-past Start b c past beyond = grind (arith, nat_tests)
next_position-past Mark b c past beyond = grind (arith, nat_tests)
next_position-past FirstSegment b c past beyond = grind (arith, nat_tests)
next_position-past AfterSlash b c past beyond = refl

next_position-twice : (position : PathPosition) (b c : ℕ) → 128 ≤ b → 128 ≤ c
    → next_position (next_position position b) c ≡ next_position position c
next_position-twice Start b c past beyond = grind (arith, nat_tests)
next_position-twice Mark b c past beyond = grind (arith, nat_tests)
next_position-twice FirstSegment b c past beyond = grind (arith, nat_tests)
next_position-twice AfterSlash b c past beyond = refl

-- bytes past ASCII are written as they are
spelling_from-past : (position : PathPosition) (bs : List ℕ) (rest : List ℕ) (c : ℕ) → 128 ≤ c → 0 < length bs
    → ArePastAscii bs
    → spelling_from position (bs ++ rest) ≡ bs ++ spelling_from (next_position position c) rest
spelling_from-past position [] rest c past some high = absurd (omega (arith, some))
spelling_from-past position (b ∷ []) rest c past some (first, others) =
    ap (λ t. written_byte t b ++ spelling_from (next_position position b) rest) (past_ascii-kept position b first)
    ∙ ap (λ p. b ∷ spelling_from p rest) (next_position-past position b c first past)
spelling_from-past position (b ∷ d ∷ bs) rest c past some (first, others) =
    ap (λ t. written_byte t b ++ spelling_from (next_position position b) (d ∷ bs ++ rest)) (past_ascii-kept position b first)
    ∙ ap (λ text. b ∷ text)
    (spelling_from-past (next_position position b) (d ∷ bs) rest c past (omega arith) others
    ∙ ap (λ p. d ∷ bs ++ spelling_from p rest) (next_position-twice position b c first past))

-- what is written for one character
pub spelling_from-character : (position : PathPosition) (c : ℕ) (rest : List ℕ)
    → spelling_from position (encode_utf8 c ++ rest) ≡ written_character position c ++ spelling_from (next_position position c) rest
spelling_from-character position c rest = of (nat_lt c 128) refl where
  of : (t : Bool) → nat_lt c 128 ≡ t
      → spelling_from position (encode_utf8 c ++ rest) ≡ written_character position c ++ spelling_from (next_position position c) rest
  of true below =
      let ascii : encode_utf8 c ≡ c ∷ [] = encode_ascii c (grind (arith, nat_tests)) in
      ap (λ bs. spelling_from position (bs ++ rest)) ascii
      ∙ ap (λ bs. (if is_escaped position c then percent_text c else bs) ++ spelling_from (next_position position c) rest) (sym ascii)
  of false above =
      let past : 128 ≤ c = grind (arith, nat_tests) in
      let count : 0 < length (encode_utf8 c) = omega (arith, length-encode c, (len_utf8_bounds c).0) in
      spelling_from-past position (encode_utf8 c) rest c past count (encode-past_ascii c past)
      ∙ ap (λ t. (if t then percent_text c else encode_utf8 c) ++ spelling_from (next_position position c) rest)
      (sym (past_ascii-kept position c past))

-- what is written for a path with one more character
pub spelling_from-next : (position : PathPosition) (cs : List ℕ) (n c more : ℕ) (old new : List ℕ) → n < length cs
    → c ≡ get_or cs n c
    → more ≡ n + 1 → new ≡ old ++ written_character position c
    → new ++ spelling_from (next_position position c) (encode_utf8_all (drop more cs))
    ≡ old ++ spelling_from position (encode_utf8_all (drop n cs))
spelling_from-next position cs n c more old new inside is count grew =
    let rest = encode_utf8_all (drop (n + 1) cs) in
    let at : drop n cs ≡ c ∷ drop (n + 1) cs =
    at_drop_more (λ xs. xs) cs n c inside ∙ ap (λ d. d ∷ drop (n + 1) cs) (sym is) in
    ap₂ (λ bs k. bs ++ spelling_from (next_position position c) (encode_utf8_all (drop k cs))) grew count
    ∙ append_assoc old (written_character position c) (spelling_from (next_position position c) rest)
    ∙ ap (λ bs. old ++ bs) (sym (spelling_from-character position c rest))
    ∙ ap (λ xs. old ++ spelling_from position (encode_utf8_all xs)) (sym at)

-- what is written for a whole path
pub spelling_from-end : (position : PathPosition) (cs : List ℕ) (n : ℕ) (text all : List ℕ) → n ≡ length cs
    → text ++ spelling_from position (encode_utf8_all (drop n cs)) ≡ all → text ≡ all
spelling_from-end position cs n text all count is =
    sym (append-nil text)
    ∙ ap (λ xs. text ++ spelling_from position (encode_utf8_all xs)) (sym (drop_all n cs (omega (arith, count))))
    ∙ is

-- ---- slashes at the start

without_slashes-cut : (s ns r : List ℕ) → CutsPrefixes (FindsCharPrefix slash) s ns r
    → without_slashes r ≡ without_slashes s
without_slashes-cut s [] r is = ap without_slashes is
without_slashes-cut s (n ∷ ns) r (m, cuts, found, left) =
    ap without_slashes left
    ∙ sym (ap without_slashes (drop_at_char slash m 0 n found (lit< tt)))
    ∙ without_slashes-cut s ns m cuts

starts_otherwise : (r : List ℕ) → ((rest : List ℕ) → r ≢ slash ∷ rest) → get_or r 0 0 ≢ slash
starts_otherwise [] other = λ e. absurd (omega (arith, e))
starts_otherwise (b ∷ bs) other = λ e. other bs (ap (λ x. x ∷ bs) e)

trimmed_start : (r : List ℕ) → IsFullyTrimmed (FindsCharPrefix slash) r → get_or r 0 0 ≢ slash
trimmed_start r (None, other, _) =
    starts_otherwise r (λ rest e. other rest (e ∙ sym (ap (λ x. x ++ rest) (encode_ascii slash (lit< tt)))))
trimmed_start r (Some n, found, nothing) = absurd (let e = found.ends in omega (arith, e, nothing))

without_slashes-none : (r : List ℕ) → get_or r 0 0 ≢ slash → without_slashes r ≡ r
without_slashes-none [] other = refl
without_slashes-none (b ∷ bs) other =
    ap (λ t. if t then without_slashes bs else b ∷ bs) (ne_eqb b slash other)

pub without_slashes-trimmed : (s r : List ℕ) → IsTrimStartMatches (FindsCharPrefix slash) s r → r ≡ without_slashes s
without_slashes-trimmed s r trimmed =
    sym (without_slashes-none r (trimmed_start r trimmed.1)) ∙ without_slashes-cut s trimmed.0.0 r trimmed.0.1

-- ---- a path of which no byte is escaped

-- a position after the first byte of a path
data IsLater : PathPosition → Type 0 where
  in_first : IsLater FirstSegment
  after_slash : IsLater AfterSlash

later-slash : (slash : Bool) → IsLater (if slash then AfterSlash else FirstSegment)
later-slash true = after_slash
later-slash false = in_first

later-after : (position : PathPosition) (b : ℕ) → IsLater (next_position position b)
later-after Start b = later-slash (is_slash b)
later-after Mark b = later-slash (is_slash b)
later-after FirstSegment b = later-slash (is_slash b)
later-after AfterSlash b = after_slash

later-unescaped : (position : PathPosition) (b : ℕ) → IsLater position → is_unescaped b ≡ true → is_escaped position b ≡ false
later-unescaped Start b later is = elim later [ ]
later-unescaped Mark b later is = elim later [ ]
later-unescaped FirstSegment b in_first is = not-true (is_escaped FirstSegment b) is
later-unescaped AfterSlash b after_slash is =
    (or_parts (is_always_escaped b) (is_colon b) (not-true (is_escaped FirstSegment b) is)).0

spelling_from-unescaped : (position : PathPosition) (bs : List ℕ) → IsLater position → list_all is_unescaped bs ≡ true
    → spelling_from position bs ≡ bs
spelling_from-unescaped position [] later all = refl
spelling_from-unescaped position (b ∷ bs) later all =
    let (first, others) = and_parts (is_unescaped b) (list_all is_unescaped bs) all in
    ap (λ e. written_byte e b ++ spelling_from (next_position position b) bs) (later-unescaped position b later first)
    ∙ ap (λ rest. b ∷ rest) (spelling_from-unescaped (next_position position b) bs (later-after position b) others)

pub spelling-itself : (b : ℕ) (bs : List ℕ) → is_escaped (first_position (b ∷ bs)) b ≡ false
    → list_all is_unescaped bs ≡ true → spelling (b ∷ bs) ≡ b ∷ bs
spelling-itself b bs first all =
    let position = first_position (b ∷ bs) in
    ap (λ e. written_byte e b ++ spelling_from (next_position position b) bs) first
    ∙ ap (λ rest. b ∷ rest) (spelling_from-unescaped (next_position position b) bs (later-after position b) all)

-- the same, by the bytes of the text
pub spelling-itself-bytes : (text bytes : List ℕ) → bytes ≡ text → 1 ≤ length bytes
    → is_escaped (first_position text) (get_or bytes 0 0) ≡ false → list_all is_unescaped (from_byte 1 bytes) ≡ true
    → spelling text ≡ text
spelling-itself-bytes [] bytes is some first all = refl
spelling-itself-bytes (b ∷ bs) bytes is some first all =
    spelling-itself b bs (ap (λ l. is_escaped (first_position (b ∷ bs)) (get_or l 0 0)) (sym is) ∙ first)
    (ap (λ l. list_all is_unescaped l) (sym (from_byte-drop 1 (b ∷ bs)) ∙ ap (from_byte 1) (sym is)) ∙ all)
