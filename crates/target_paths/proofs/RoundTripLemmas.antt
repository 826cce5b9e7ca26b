-- What is written for a path, read back.
use Rattle.std.proofs.Common.{◌≡◌, ℕ, suc, ◌+◌, ◌-◌, ◌*◌, ◌/◌, ◌%◌, ◌<◌, Bool, true, false, ◌||◌, ◌&&◌, ◌==◌, not, nat_lt, cond, if◌then◌else◌, List, [], ◌∷◌, ◌++◌, map, length, take, drop, get_or, ◌≤◌, Result, Ok, Err, refl, sym, ap, ap₂, ◌∙◌, arith, length-drop, subst}
use Rattle.std.proofs.lemmas.Bool.Decides.{nat_tests}
use Rattle.std.proofs.lemmas.List.{get_or-drop}
use Rattle.std.proofs.lemmas.Str.{encode_ascii, IsCharBoundary-end, IsCharBoundary-before_ascii}
use Rattle.std.specs.Char.{encode_utf8, digit_value, is_ascii_punctuation, is_ascii_alphabetic}
use Rattle.std.specs.List.{list_any, list_all, before_first, position_or_len}
use Rattle.std.specs.Str.{IsUtf8, IsCharBoundary}
use Rattle.target_paths.specs.declared.target.TargetSyntax.{TargetSyntax}
use Rattle.target_paths.specs.declared.target.TargetSyntax.TheVariants.{Markdown, Attribute}
use Rattle.target_paths.specs.declared.target.WhyUnknown.{WhyUnknown}
use Rattle.target_paths.specs.declared.target.WhyUnknown.TheVariants.{EncodedNul, EncodedSlash}
use Rattle.target_paths.specs.declared.path_position.PathPosition.{PathPosition}
use Rattle.target_paths.specs.declared.path_position.PathPosition.TheVariants.{Start, Mark, FirstSegment, AfterSlash}
use Rattle.target_paths.specs.Pieces.{plain, read_pieces, append_read, bytes_of_pieces, total_size}
use Rattle.target_paths.specs.Reading.{is_tail_byte, before_tail, path_pieces, trim_url, path_before, unknown, meaning_decoded, meaning_of_url, meaning, IsTail, BeginsRelative}
use Rattle.target_paths.specs.Source.{source_piece, is_escape, character_reference_piece, read_character_reference, byte_piece, byte_read, character_read, is_tab_or_line_end}
use Rattle.target_paths.specs.Url.{is_blank, before_text, without_leading, without_trailing, is_slash, is_colon, is_scheme_byte, has_scheme, is_not_relative, decoded_byte, has_digits, digits_byte, url_piece}
use Rattle.target_paths.specs.Writing.{is_always_escaped, is_template_byte, is_block_byte, is_line_byte, is_digit_byte, last_byte, is_mark, begins_mark, is_escaped_at_start, is_escaped, first_position, next_position, hexadecimal, percent_text, written_byte, spelling_from, without_slashes, some_path, path_written, spelling, target_of, is_nul, IsTakenAs, ends_target, begins_template, begins_block}
use Rattle.target_paths.proofs.ReadingLemmas.{tail-past_ascii, meaning-read, meaning-decoded, meaning-utf8}

-- ---- what is written is calm: it has no reserved byte but percent signs

abbrev pub is_calm : ℕ → Bool
is_calm b = not (is_always_escaped b) || b == 37

-- each written byte is calm
abbrev pub AreCalm : List ℕ → Type 0
AreCalm [] = Unit {0}
AreCalm (b ∷ bs) = (is_calm b ≡ true) × AreCalm bs

AreCalm-append : (xs ys : List ℕ) → AreCalm xs → AreCalm ys → AreCalm (xs ++ ys)
AreCalm-append [] ys calm others = others
AreCalm-append (x ∷ xs) ys (first, rest) others = (first, AreCalm-append xs ys rest others)

hexadecimal-calm : (d : ℕ) → d < 16 → is_calm (hexadecimal d) ≡ true
hexadecimal-calm d small = grind (arith, nat_tests)

high_digit : (b : ℕ) → b < 256 → b / 16 < 16
high_digit b byte = omega arith

low_digit : (b : ℕ) → b % 16 < 16
low_digit b = omega arith

percent_text-calm : (b : ℕ) → b < 256 → AreCalm (percent_text b)
percent_text-calm b byte =
    (refl, (hexadecimal-calm (b / 16) (high_digit b byte), (hexadecimal-calm (b % 16) (low_digit b), tt)))

or_none : (a b : Bool) → (a || b) ≡ false → a ≡ false
or_none true b none = absurd cc
or_none false b none = refl

-- a byte that isn't escaped at the start of a mark isn't escaped at another start
kept-start : (b : ℕ) → is_escaped Mark b ≡ false → is_escaped Start b ≡ false
kept-start b keeps = or_none (is_escaped_at_start b) (begins_mark b) keeps

kept_at_start-plain : (b : ℕ) → is_escaped_at_start b ≡ false → is_always_escaped b ≡ false
kept_at_start-plain b keeps = grind (arith, nat_tests)

-- no byte that stays is reserved
kept-plain : (position : PathPosition) (b : ℕ) → is_escaped position b ≡ false → is_always_escaped b ≡ false
kept-plain Start b keeps = kept_at_start-plain b keeps
kept-plain Mark b keeps = kept_at_start-plain b (kept-start b keeps)
kept-plain FirstSegment b keeps = or_none (is_always_escaped b) (is_colon b) keeps
kept-plain AfterSlash b keeps = keeps

plain-calm : (b : ℕ) → is_always_escaped b ≡ false → is_calm b ≡ true
plain-calm b plain = ap (λ t. not t || b == 37) plain

-- an escaped byte is ASCII
escaped-ascii : (position : PathPosition) (b : ℕ) → is_escaped position b ≡ true → b < 128
escaped-ascii Start b escaped = grind (arith, nat_tests)
escaped-ascii Mark b escaped = grind (arith, nat_tests)
escaped-ascii FirstSegment b escaped = grind (arith, nat_tests)
escaped-ascii AfterSlash b escaped = grind (arith, nat_tests)

-- two cases: a byte is escaped, or it isn't
pub by_escape : (P : Bool → Type 0) (t : Bool) → (t ≡ true → P true) → (t ≡ false → P false) → P t
by_escape P true escaped keeps = escaped refl
by_escape P false escaped keeps = keeps refl

written_byte-calm : (position : PathPosition) (b : ℕ) → AreCalm (written_byte (is_escaped position b) b)
written_byte-calm position b =
    by_escape (λ t. AreCalm (written_byte t b)) (is_escaped position b)
    (λ escaped. let ascii = escaped-ascii position b escaped in percent_text-calm b (omega (arith, ascii)))
    (λ keeps. (plain-calm b (kept-plain position b keeps), tt))

pub spelling_from-calm : (position : PathPosition) (bs : List ℕ) → AreCalm (spelling_from position bs)
spelling_from-calm position [] = tt
spelling_from-calm position (b ∷ bs) =
    AreCalm-append (written_byte (is_escaped position b) b) (spelling_from (next_position position b) bs) (written_byte-calm position b)
    (spelling_from-calm (next_position position b) bs)

-- ---- calm bytes are read as themselves, in each syntax

-- the byte is no control byte, no space, no `&` and no backslash
abbrev is_literal : ℕ → Bool
is_literal b = nat_lt 32 b && not (b == 38) && not (b == 92)

calm-literal : (b : ℕ) → is_calm b ≡ true → is_literal b ≡ true
calm-literal b calm = grind (arith, nat_tests)

tail-literal : (b : ℕ) → is_tail_byte b ≡ true → is_literal b ≡ true
tail-literal b tail = grind (arith, nat_tests)

calm-no_tail : (b : ℕ) → is_calm b ≡ true → is_tail_byte b ≡ false
calm-no_tail b calm = grind (arith, nat_tests)

literal-some : (b : ℕ) → is_literal b ≡ true → (b == 0) ≡ false
literal-some b literal = grind (arith, nat_tests)

literal-no_character_reference : (b : ℕ) → is_literal b ≡ true → (b == 38) ≡ false
literal-no_character_reference b literal = grind (arith, nat_tests)

literal-no_backslash : (b : ℕ) → is_literal b ≡ true → (b == 92) ≡ false
literal-no_backslash b literal = grind (arith, nat_tests)

literal-no_line_end : (b : ℕ) → is_literal b ≡ true → is_tab_or_line_end b ≡ false
literal-no_line_end b literal = grind (arith, nat_tests)

literal-character : (syntax : TargetSyntax) (b : ℕ) → is_literal b ≡ true → b < 128 → character_read syntax b ≡ b ∷ []
literal-character Markdown b literal low = encode_ascii b low
literal-character Attribute b literal low =
    ap (λ t. if t then [] else if b == 92 then 47 ∷ [] else encode_utf8 b) (literal-no_line_end b literal)
    ∙ ap (λ t. if t then 47 ∷ [] else encode_utf8 b) (literal-no_backslash b literal)
    ∙ encode_ascii b low

ltb-below : (b : ℕ) → nat_lt b 128 ≡ true → b < 128
ltb-below b is = grind (arith, nat_tests)

literal-byte : (syntax : TargetSyntax) (b : ℕ) → is_literal b ≡ true → byte_read syntax b ≡ b ∷ []
literal-byte syntax b literal =
    ap (λ t. if t then encode_utf8 0xFFFD else if nat_lt b 128 then character_read syntax b else b ∷ [])
    (literal-some b literal)
    ∙ by_escape (λ t. (if t then character_read syntax b else b ∷ []) ≡ b ∷ []) (nat_lt b 128)
    (λ low. literal-character syntax b literal (ltb-below b low)) (λ high. refl)

literal-no_escape : (syntax : TargetSyntax) (b next : ℕ) → is_literal b ≡ true → is_escape syntax b next ≡ false
literal-no_escape Markdown b next literal = ap (λ t. t && is_ascii_punctuation next) (literal-no_backslash b literal)
literal-no_escape Attribute b next literal = refl

literal-piece : (syntax : TargetSyntax) (b : ℕ) (rest : List ℕ) → is_literal b ≡ true
    → source_piece syntax b rest ≡ plain b
literal-piece syntax b rest literal =
    ap (λ t. if t then record { size = 2; read = Ok (get_or rest 0 0 ∷ []) }
    else if b == 38 then character_reference_piece syntax rest (read_character_reference syntax rest) else byte_piece syntax b)
    (literal-no_escape syntax b (get_or rest 0 0) literal)
    ∙ ap (λ t. if t then character_reference_piece syntax rest (read_character_reference syntax rest) else byte_piece syntax b)
    (literal-no_character_reference b literal)
    ∙ ap (λ bytes. record { size = 1; read = Ok bytes }) (literal-byte syntax b literal)

-- calm bytes before a tail are the path's pieces
path_pieces-calm : (syntax : TargetSyntax) (ws tail : List ℕ) → AreCalm ws → IsTail syntax tail
    → path_pieces syntax (ws ++ tail) ≡ map plain ws
path_pieces-calm syntax [] tail calm is = is
path_pieces-calm syntax (w ∷ ws) tail (first, others) is =
    let begin = source_piece syntax in
    ap (λ p. before_tail (p ∷ read_pieces begin (p.size - 1) (ws ++ tail)))
    (literal-piece syntax w (ws ++ tail) (calm-literal w first))
    ∙ ap (λ b. if b then [] else plain w ∷ path_pieces syntax (ws ++ tail)) (calm-no_tail w first)
    ∙ ap (λ ps. plain w ∷ ps) (path_pieces-calm syntax ws tail others is)

bytes_of_pieces-plain : (ws : List ℕ) → bytes_of_pieces (map plain ws) ≡ Ok ws
bytes_of_pieces-plain [] = refl
bytes_of_pieces-plain (w ∷ ws) = ap (append_read (Ok (w ∷ []))) (bytes_of_pieces-plain ws)

total_size-plain : (ws : List ℕ) → total_size (map plain ws) ≡ length ws
total_size-plain [] = refl
total_size-plain (w ∷ ws) = let rest = total_size-plain ws in omega arith

-- ---- what is written is never trimmed

calm-no_blank : (b : ℕ) → is_calm b ≡ true → is_blank b ≡ false
calm-no_blank b calm = grind (arith, nat_tests)

without_leading-calm : (ws : List ℕ) → AreCalm ws → without_leading ws ≡ ws
without_leading-calm [] calm = refl
without_leading-calm (w ∷ ws) (first, others) =
    ap (λ t. if t then without_leading ws else w ∷ ws) (calm-no_blank w first)

before_text-kept : (b : ℕ) (bs : List ℕ) → is_blank b ≡ false → before_text b bs ≡ b ∷ bs
before_text-kept b [] keeps = ap (λ t. if t then [] else b ∷ []) keeps
before_text-kept b (c ∷ cs) keeps = refl

without_trailing-calm : (ws : List ℕ) → AreCalm ws → without_trailing ws ≡ ws
without_trailing-calm [] calm = refl
without_trailing-calm (w ∷ ws) (first, others) =
    ap (before_text w) (without_trailing-calm ws others) ∙ before_text-kept w ws (calm-no_blank w first)

trim_url-calm : (syntax : TargetSyntax) (tail : Bool) (ws : List ℕ) → AreCalm ws → trim_url syntax tail ws ≡ ws
trim_url-calm Markdown tail ws calm = refl
trim_url-calm Attribute true ws calm = without_leading-calm ws calm
trim_url-calm Attribute false ws calm =
    ap without_trailing (without_leading-calm ws calm) ∙ without_trailing-calm ws calm

-- ---- what is written has no scheme

-- scheme bytes and a colon begin the text
abbrev ends_scheme : List ℕ → Bool
ends_scheme [] = false
ends_scheme (w ∷ ws) = is_colon w || is_scheme_byte w && ends_scheme ws

-- the elements before the first that passes a test, by the first element
before_first-next : (p : ℕ → Bool) (b : ℕ) (bs : List ℕ)
    → before_first p (b ∷ bs) ≡ cond (p b) [] (b ∷ before_first p bs)
before_first-next p b bs = of (p b) where
  more : 1 + position_or_len p bs ≡ suc (position_or_len p bs)
  more = omega arith

  of : (passes : Bool) → take (cond (not passes) (1 + position_or_len p bs) 0) (b ∷ bs)
      ≡ cond passes [] (b ∷ before_first p bs)
  of true = refl
  of false = ap (λ k. take k (b ∷ bs)) more

and_false : (a : Bool) → (a && false) ≡ false
and_false true = refl
and_false false = refl

and-swapped : (a s l e : Bool) → (a && l) ≡ e → (a && (s && l)) ≡ (s && e)
and-swapped true true l e is = is
and-swapped true false l e is = refl
and-swapped false true l e is = is
and-swapped false false l e is = refl

ends_scheme-is : (ws : List ℕ)
    → (list_any is_colon ws && list_all is_scheme_byte (before_first is_colon ws)) ≡ ends_scheme ws
ends_scheme-is [] = refl
ends_scheme-is (w ∷ ws) =
    ap (λ bs. (is_colon w || list_any is_colon ws) && list_all is_scheme_byte bs) (before_first-next is_colon w ws)
    ∙ of (is_colon w) (is_scheme_byte w) (ends_scheme-is ws) where
      of : (colon byte : Bool)
          → (list_any is_colon ws && list_all is_scheme_byte (before_first is_colon ws)) ≡ ends_scheme ws
          → ((colon || list_any is_colon ws) && list_all is_scheme_byte (cond colon [] (w ∷ before_first is_colon ws)))
          ≡ (colon || is_scheme_byte w && ends_scheme ws)
      of true byte rest = refl
      of false byte rest = and-swapped (list_any is_colon ws) (is_scheme_byte w)
          (list_all is_scheme_byte (before_first is_colon ws)) (ends_scheme ws) rest

no_scheme : (ws : List ℕ) → ends_scheme ws ≡ false → has_scheme ws ≡ false
no_scheme ws none =
    of (list_any is_colon ws) (is_ascii_alphabetic (get_or (before_first is_colon ws) 0 0))
    (list_all is_scheme_byte (before_first is_colon ws)) (ends_scheme-is ws ∙ none) where
      of : (a b c : Bool) → (a && c) ≡ false → (a && (b && c)) ≡ false
      of false b c is = refl
      of true false c is = refl
      of true true c is = is

-- a byte that is a colon, written in the first segment
colon-escaped : (b : ℕ) → is_escaped FirstSegment b ≡ false → is_colon b ≡ false
colon-escaped b keeps = grind (arith, nat_tests)

slash-no_scheme : (b : ℕ) → is_slash b ≡ true → is_scheme_byte b ≡ false
slash-no_scheme b is = grind (arith, nat_tests)

-- a written byte, and what is written after it
spelling_from-no_scheme : (escaped : Bool) (b : ℕ) (bs : List ℕ) → (escaped ≡ false → is_colon b ≡ false)
    → ends_scheme (spelling_from FirstSegment bs) ≡ false
    → ends_scheme (written_byte escaped b ++ spelling_from (next_position FirstSegment b) bs) ≡ false
spelling_from-no_scheme true b bs colon rest = refl
spelling_from-no_scheme false b bs colon rest =
    ap (λ t. t || is_scheme_byte b && ends_scheme (spelling_from (next_position FirstSegment b) bs)) (colon refl)
    ∙ by_escape
    (λ t. (is_scheme_byte b && ends_scheme (spelling_from (if t then AfterSlash else FirstSegment) bs)) ≡ false) (is_slash b)
    (λ is. ap (λ t. t && ends_scheme (spelling_from AfterSlash bs)) (slash-no_scheme b is))
    (λ other. ap (λ t. is_scheme_byte b && t) rest ∙ and_false (is_scheme_byte b))

segment-no_scheme : (bs : List ℕ) → ends_scheme (spelling_from FirstSegment bs) ≡ false
segment-no_scheme [] = refl
segment-no_scheme (b ∷ bs) =
    spelling_from-no_scheme (is_escaped FirstSegment b) b bs (colon-escaped b) (segment-no_scheme bs)

-- the position at the start of a path
abbrev start : Bool → PathPosition
start mark = if mark then Mark else Start

colon-kept_at_start : (b : ℕ) → is_escaped_at_start b ≡ false → is_colon b ≡ false
colon-kept_at_start b keeps = grind (arith, nat_tests)

colon-escaped_start : (mark : Bool) (b : ℕ) → is_escaped (start mark) b ≡ false → is_colon b ≡ false
colon-escaped_start true b keeps = colon-kept_at_start b (kept-start b keeps)
colon-escaped_start false b keeps = colon-kept_at_start b keeps

after_start : (mark : Bool) (b : ℕ) → next_position (start mark) b ≡ next_position FirstSegment b
after_start true b = refl
after_start false b = refl

relative-by_first : (b : ℕ) (rest : List ℕ) → is_slash b ≡ false → has_scheme (b ∷ rest) ≡ false
    → is_not_relative (b ∷ rest) ≡ false
relative-by_first b rest other scheme =
    let some : (length (b ∷ rest) == 0) ≡ false = grind (arith, nat_tests) in
    ap (λ t. t || is_slash b || has_scheme (b ∷ rest)) some
    ∙ ap (λ t. t || has_scheme (b ∷ rest)) other
    ∙ scheme

start-relative : (escaped : Bool) (b : ℕ) (rest : List ℕ) → is_slash b ≡ false
    → has_scheme (written_byte escaped b ++ rest) ≡ false → is_not_relative (written_byte escaped b ++ rest) ≡ false
start-relative true b rest other scheme =
    relative-by_first 37 (hexadecimal (b / 16) ∷ hexadecimal (b % 16) ∷ rest) refl scheme
start-relative false b rest other scheme = relative-by_first b rest other scheme

spelling_from-relative : (mark : Bool) (b : ℕ) (bs : List ℕ) → is_slash b ≡ false
    → is_not_relative (spelling_from (start mark) (b ∷ bs)) ≡ false
spelling_from-relative mark b bs other =
    let escaped = is_escaped (start mark) b in
    start-relative escaped b (spelling_from (next_position (start mark) b) bs) other
    (no_scheme (spelling_from (start mark) (b ∷ bs))
    (ap (λ position. ends_scheme (written_byte escaped b ++ spelling_from position bs)) (after_start mark b)
    ∙ spelling_from-no_scheme escaped b bs (colon-escaped_start mark b) (segment-no_scheme bs)))

-- ---- what is written is decoded to the path

-- what the bytes of a path are decoded to: only NUL is unknown
abbrev decoding : List ℕ → Result (List ℕ) WhyUnknown
decoding bs = if list_any is_nul bs then Err EncodedNul else Ok bs

decoding-byte : (b : ℕ) (bs : List ℕ) → is_nul b ≡ false → append_read (Ok (b ∷ [])) (decoding bs) ≡ decoding (b ∷ bs)
decoding-byte b bs some =
    of (list_any is_nul bs) ∙ ap (λ t. if t || list_any is_nul bs then Err EncodedNul else Ok (b ∷ bs)) (sym some) where
      of : (t : Bool)
          → append_read (Ok (b ∷ [])) (if t then Err EncodedNul else Ok bs) ≡ (if t then Err EncodedNul else Ok (b ∷ bs))
      of true = refl
      of false = refl

plain-no_percent : (b : ℕ) → is_always_escaped b ≡ false → (b == 37) ≡ false
plain-no_percent b plain = grind (arith, nat_tests)

plain-some : (b : ℕ) → is_always_escaped b ≡ false → is_nul b ≡ false
plain-some b plain = grind (arith, nat_tests)

escaped-no_slash : (position : PathPosition) (b : ℕ) → is_escaped position b ≡ true → is_slash b ≡ false
escaped-no_slash Start b escaped = grind (arith, nat_tests)
escaped-no_slash Mark b escaped = grind (arith, nat_tests)
escaped-no_slash FirstSegment b escaped = grind (arith, nat_tests)
escaped-no_slash AfterSlash b escaped = grind (arith, nat_tests)

hexadecimal-value : (d : ℕ) → d < 16 → digit_value (hexadecimal d) ≡ d
hexadecimal-value d small = grind (arith, nat_tests)

ltb-16 : (d : ℕ) → d < 16 → nat_lt d 16 ≡ true
ltb-16 d small = grind (arith, nat_tests)

-- the two hexadecimal digits of a byte
digits-percent : (b : ℕ) (rest : List ℕ) → b < 256
    → (has_digits (hexadecimal (b / 16) ∷ hexadecimal (b % 16) ∷ rest) ≡ true)
    × (digits_byte (hexadecimal (b / 16) ∷ hexadecimal (b % 16) ∷ rest) ≡ b)
digits-percent b rest byte =
    let high = hexadecimal-value (b / 16) (high_digit b byte) in
    let low = hexadecimal-value (b % 16) (low_digit b) in (
      ap₂ (λ h l. nat_lt h 16 && nat_lt l 16) high low
          ∙ ap₂ (λ h l. h && l) (ltb-16 (b / 16) (high_digit b byte)) (ltb-16 (b % 16) (low_digit b)),
      ap₂ (λ h l. 16 * h + l) high low ∙ omega arith,
    )

-- a byte that isn't escaped
decoding-kept : (b : ℕ) (rest : List ℕ) (bs : List ℕ) → (b == 37) ≡ false → is_nul b ≡ false
    → bytes_of_pieces (read_pieces url_piece 0 rest) ≡ decoding bs
    → bytes_of_pieces (read_pieces url_piece 0 (b ∷ rest)) ≡ decoding (b ∷ bs)
decoding-kept b rest bs other some is =
    ap (λ p. bytes_of_pieces (p ∷ read_pieces url_piece (p.size - 1) rest))
    (ap (λ t. if t && has_digits rest then record { size = 3; read = decoded_byte (digits_byte rest) } else plain b) other)
    ∙ ap (append_read (Ok (b ∷ []))) is
    ∙ decoding-byte b bs some

-- what a byte other than a slash is decoded to
decoded_byte-append_read : (b : ℕ) (bs : List ℕ) → is_slash b ≡ false
    → append_read (decoded_byte b) (decoding bs) ≡ decoding (b ∷ bs)
decoded_byte-append_read b bs other =
    by_escape
    (λ t. is_nul b ≡ t → append_read
    (if t then Err EncodedNul else if is_slash b then Err EncodedSlash else Ok (b ∷ []))
    (decoding bs) ≡ decoding (b ∷ bs))
    (is_nul b)
    (λ nul is. ap (λ t. if t || list_any is_nul bs then Err EncodedNul else Ok (b ∷ bs)) (sym is))
    (λ some is. ap (λ t. append_read (if t then Err EncodedSlash else Ok (b ∷ [])) (decoding bs)) other ∙ decoding-byte b bs some)
    refl

-- an escaped byte
decoding-escaped : (b : ℕ) (rest : List ℕ) (bs : List ℕ) → b < 256 → is_slash b ≡ false
    → bytes_of_pieces (read_pieces url_piece 0 rest) ≡ decoding bs
    → bytes_of_pieces (read_pieces url_piece 0 (percent_text b ++ rest)) ≡ decoding (b ∷ bs)
decoding-escaped b rest bs byte other is =
    let text = hexadecimal (b / 16) ∷ hexadecimal (b % 16) ∷ rest in
    let (digits, value) = digits-percent b rest byte in
    ap (λ p. bytes_of_pieces (p ∷ read_pieces url_piece (p.size - 1) text))
    (ap (λ t. if t then record { size = 3; read = decoded_byte (digits_byte text) } else plain 37) digits
    ∙ ap (λ d. record { size = 3; read = decoded_byte d }) value)
    ∙ ap (append_read (decoded_byte b)) is
    ∙ decoded_byte-append_read b bs other

pub spelling_from-decoding : (position : PathPosition) (bs : List ℕ)
    → bytes_of_pieces (read_pieces url_piece 0 (spelling_from position bs)) ≡ decoding bs
spelling_from-decoding position [] = refl
spelling_from-decoding position (b ∷ bs) =
    let rest = spelling_from (next_position position b) bs in
    let is = spelling_from-decoding (next_position position b) bs in
    by_escape (λ t. bytes_of_pieces (read_pieces url_piece 0 (written_byte t b ++ rest)) ≡ decoding (b ∷ bs)) (is_escaped position b)
    (λ escaped. let ascii = escaped-ascii position b escaped in
    decoding-escaped b rest bs (omega (arith, ascii)) (escaped-no_slash position b escaped) is)
    (λ keeps. let plain = kept-plain position b keeps in
    decoding-kept b rest bs (plain-no_percent b plain) (plain-some b plain) is)

-- ---- the whole target

pub meaning-spelling : (syntax : TargetSyntax) (b : ℕ) (bs tail : List ℕ) → is_slash b ≡ false → IsTail syntax tail
    → meaning syntax (spelling (b ∷ bs) ++ tail) ≡ meaning_decoded (decoding (b ∷ bs)) (length (spelling (b ∷ bs)))
meaning-spelling syntax b bs tail other is =
    let ws = spelling (b ∷ bs) in
    let calm = spelling_from-calm (first_position (b ∷ bs)) (b ∷ bs) in
    let parts = path_pieces-calm syntax ws tail calm is in
    meaning-read syntax (ws ++ tail) (Ok ws) (length ws) (ap bytes_of_pieces parts ∙ bytes_of_pieces-plain ws)
    (sym (ap total_size parts ∙ total_size-plain ws))
    ∙ ap (λ text. meaning_of_url text (length ws)) (trim_url-calm syntax (nat_lt (length ws) (length (ws ++ tail))) ws calm)
    ∙ meaning-decoded ws (decoding (b ∷ bs)) (length ws) (spelling_from-relative (is_mark (b ∷ bs)) b bs other)
    (spelling_from-decoding (first_position (b ∷ bs)) (b ∷ bs))

path_written-relative : (path : List ℕ) → BeginsRelative (path_written path)
path_written-relative [] = refl
path_written-relative (b ∷ bs) =
    by_escape (λ t. BeginsRelative (some_path (if t then without_slashes bs else b ∷ bs))) (is_slash b)
    (λ is. path_written-relative bs) (λ other. other)

slash-some : (b : ℕ) → is_slash b ≡ true → is_nul b ≡ false
slash-some b is = grind (arith, nat_tests)

path_written-nul : (path : List ℕ) → list_any is_nul (path_written path) ≡ list_any is_nul path
path_written-nul [] = refl
path_written-nul (b ∷ bs) =
    by_escape
    (λ t. list_any is_nul (some_path (if t then without_slashes bs else b ∷ bs)) ≡ (is_nul b || list_any is_nul bs))
    (is_slash b)
    (λ is. path_written-nul bs ∙ ap (λ t. t || list_any is_nul bs) (sym (slash-some b is))) (λ other. refl)

-- a text that begins as a relative path is read back
meaning-relative : (path : List ℕ) → BeginsRelative path
    → IsTakenAs (spelling path) (meaning_decoded (decoding path) (length (spelling path)))
meaning-relative [] none syntax tail is = absurd none
meaning-relative (b ∷ bs) other syntax tail is = meaning-spelling syntax b bs tail other is

-- a path without NUL is read back
pub target_of-read : (path : List ℕ) → IsUtf8 (path_written path) → list_any is_nul path ≡ false
    → IsTakenAs (target_of path) (path_before (path_written path) (length (target_of path)))
target_of-read path utf8 none syntax tail is =
    meaning-relative (path_written path) (path_written-relative path) syntax tail is
    ∙ ap (λ t. meaning_decoded (if t then Err EncodedNul else Ok (path_written path)) (length (target_of path)))
    (path_written-nul path ∙ none)
    ∙ meaning-utf8 (path_written path) (length (target_of path)) utf8

-- a path with NUL is read as unknown
pub target_of-nul : (path : List ℕ) → list_any is_nul path ≡ true → IsTakenAs (target_of path) (unknown EncodedNul)
target_of-nul path some syntax tail is =
    meaning-relative (path_written path) (path_written-relative path) syntax tail is
    ∙ ap (λ t. meaning_decoded (if t then Err EncodedNul else Ok (path_written path)) (length (target_of path)))
    (path_written-nul path ∙ some)

-- no calm byte ends a target
calm-whole : (b : ℕ) → is_calm b ≡ true → ends_target b ≡ false
calm-whole b calm = grind (arith, nat_tests)

AreCalm-whole : (ws : List ℕ) → AreCalm ws → list_any ends_target ws ≡ false
AreCalm-whole [] calm = refl
AreCalm-whole (w ∷ ws) (first, others) =
    ap (λ t. t || list_any ends_target ws) (calm-whole w first) ∙ AreCalm-whole ws others

pub target_of-whole : (path : List ℕ) → list_any ends_target (target_of path) ≡ false
target_of-whole path = AreCalm-whole (target_of path) (spelling_from-calm (first_position (path_written path)) (path_written path))

-- ---- what is written begins no template and no block

-- the text ends in a dot
abbrev ends_in_dot : List ℕ → Bool
ends_in_dot [] = false
ends_in_dot (b ∷ []) = b == 46
ends_in_dot (b ∷ c ∷ cs) = ends_in_dot (c ∷ cs)

last_byte-dot : (bs : List ℕ) → (last_byte bs == 46) ≡ ends_in_dot bs
last_byte-dot [] = refl
last_byte-dot (b ∷ []) = refl
last_byte-dot (b ∷ c ∷ cs) =
    let at : length (b ∷ c ∷ cs) - 1 ≡ suc (length (c ∷ cs) - 1) = omega arith in
    ap (λ k. get_or (b ∷ c ∷ cs) k 0 == 46) at ∙ last_byte-dot (c ∷ cs)

ends_in_dot-next : (b : ℕ) (bs : List ℕ) → 0 < length bs → ends_in_dot (b ∷ bs) ≡ ends_in_dot bs
ends_in_dot-next b [] some = absurd (omega (arith, some))
ends_in_dot-next b (c ∷ cs) some = refl

spelling_from-some : (position : PathPosition) (b : ℕ) (bs : List ℕ) → 0 < length (spelling_from position (b ∷ bs))
spelling_from-some position b bs =
    by_escape (λ t. 0 < length (written_byte t b ++ spelling_from (next_position position b) bs)) (is_escaped position b)
    (λ _. omega arith) (λ _. omega arith)

hexadecimal-no_dot : (d : ℕ) → (hexadecimal d == 46) ≡ false
hexadecimal-no_dot d = grind (arith, nat_tests)

dot-kept : (position : PathPosition) (b : ℕ) → is_escaped position b ≡ true → (b == 46) ≡ false
dot-kept Start b escaped = grind (arith, nat_tests)
dot-kept Mark b escaped = grind (arith, nat_tests)
dot-kept FirstSegment b escaped = grind (arith, nat_tests)
dot-kept AfterSlash b escaped = grind (arith, nat_tests)

ends_in_dot-spelling_from : (position : PathPosition) (bs : List ℕ) → ends_in_dot (spelling_from position bs) ≡ ends_in_dot bs
ends_in_dot-spelling_from position [] = refl
ends_in_dot-spelling_from position (b ∷ []) =
    by_escape (λ t. ends_in_dot (written_byte t b ++ []) ≡ (b == 46)) (is_escaped position b)
    (λ escaped. hexadecimal-no_dot (b % 16) ∙ sym (dot-kept position b escaped)) (λ keeps. refl)
ends_in_dot-spelling_from position (b ∷ c ∷ cs) =
    let rest = spelling_from (next_position position b) (c ∷ cs) in
    let some = spelling_from-some (next_position position b) c cs in
    let is = ends_in_dot-spelling_from (next_position position b) (c ∷ cs) in
    by_escape (λ t. ends_in_dot (written_byte t b ++ rest) ≡ ends_in_dot (c ∷ cs)) (is_escaped position b)
    (λ escaped. ends_in_dot-next (hexadecimal (b % 16)) rest some ∙ is) (λ keeps. ends_in_dot-next b rest some ∙ is)

-- a text that isn't a line of dashes and underscores
spelling_from-no_line : (position : PathPosition) (bs : List ℕ) → list_all is_line_byte bs ≡ false
    → list_all is_line_byte (spelling_from position bs) ≡ false
spelling_from-no_line position [] none = none
spelling_from-no_line position (b ∷ bs) none =
    let rest = spelling_from (next_position position b) bs in
    by_escape (λ t. list_all is_line_byte (written_byte t b ++ rest) ≡ false) (is_escaped position b) (λ escaped. refl)
    (λ keeps.
    by_escape
    (λ t. (t && list_all is_line_byte bs) ≡ false → (t && list_all is_line_byte rest) ≡ false)
    (is_line_byte b)
    (λ line others. spelling_from-no_line (next_position position b) bs others)
    (λ other _. refl)
    none)

by_dot : (line digit : Bool) (dot other : Bool) → (line || digit && dot) ≡ false → other ≡ dot → (digit && other) ≡ false
by_dot true digit dot other none same = absurd cc
by_dot false digit dot other none same = ap (λ t. digit && t) same ∙ none

-- a first byte that stays, and what is written after it
kept-no_mark : (position : PathPosition) (b : ℕ) (bs : List ℕ) → is_mark (b ∷ bs) ≡ false → is_escaped position b ≡ false
    → is_mark (spelling_from position (b ∷ bs)) ≡ false
kept-no_mark position b bs none keeps =
    let line = list_all is_line_byte (b ∷ bs) in
    let dot = last_byte (b ∷ bs) == 46 in
    let first : spelling_from position (b ∷ bs) ≡ b ∷ spelling_from (next_position position b) bs =
    ap (λ t. written_byte t b ++ spelling_from (next_position position b) bs) keeps in
    let same : (last_byte (spelling_from position (b ∷ bs)) == 46) ≡ dot =
    last_byte-dot (spelling_from position (b ∷ bs)) ∙ ends_in_dot-spelling_from position (b ∷ bs)
    ∙ sym (last_byte-dot (b ∷ bs)) in
    ap (λ t. t || is_digit_byte (get_or (spelling_from position (b ∷ bs)) 0 0) && (last_byte (spelling_from position (b ∷ bs)) == 46))
    (spelling_from-no_line position (b ∷ bs) (or_none line (is_digit_byte b && dot) none))
    ∙ ap (λ text. is_digit_byte (get_or text 0 0) && (last_byte (spelling_from position (b ∷ bs)) == 46)) first
    ∙ by_dot line (is_digit_byte b) dot (last_byte (spelling_from position (b ∷ bs)) == 46) none same

start-kept : (b : ℕ) → is_escaped Start b ≡ false → (is_template_byte b ≡ false) × (is_block_byte b ≡ false)
start-kept b keeps = (grind (arith, nat_tests), grind (arith, nat_tests))

mark-first : (b : ℕ) (bs : List ℕ) → is_mark (b ∷ bs) ≡ true → is_escaped Mark b ≡ true
mark-first b bs mark = grind (arith, nat_tests)

-- the text begins no template and no block
abbrev BeginsNothing : List ℕ → Type 0
BeginsNothing text = (begins_template text ≡ false) × (begins_block text ≡ false)

spelling-begins : (b : ℕ) (bs : List ℕ) → BeginsNothing (spelling (b ∷ bs))
spelling-begins b bs =
    by_escape (λ t. is_mark (b ∷ bs) ≡ t → BeginsNothing (spelling_from (start t) (b ∷ bs))) (is_mark (b ∷ bs))
    (λ _ mark.
    subst (λ t. BeginsNothing (written_byte t b ++ spelling_from (next_position Mark b) bs)) (sym (mark-first b bs mark))
    (refl, refl))
    (λ _ none.
    by_escape
    (λ t. is_escaped Start b ≡ t → BeginsNothing (written_byte t b ++ spelling_from (next_position Start b) bs))
    (is_escaped Start b)
    (λ _ _. (refl, refl))
    (λ _ keeps.
    let rest = b ∷ spelling_from (next_position Start b) bs in
    let first : spelling_from Start (b ∷ bs) ≡ rest =
    ap (λ t. written_byte t b ++ spelling_from (next_position Start b) bs) keeps in
    let (template, block) = start-kept b keeps in (
      template,
      ap (λ t. t || is_mark rest) block ∙ sym (ap is_mark first) ∙ kept-no_mark Start b bs none keeps,
    ))
    refl)
    refl

BeginsNothing-relative : (path : List ℕ) → BeginsRelative path → BeginsNothing (spelling path)
BeginsNothing-relative [] none = absurd none
BeginsNothing-relative (b ∷ bs) other = spelling-begins b bs

target_of-begins : (path : List ℕ) → BeginsNothing (target_of path)
target_of-begins path = BeginsNothing-relative (path_written path) (path_written-relative path)

pub target_of-no_template : (path : List ℕ) → begins_template (target_of path) ≡ false
target_of-no_template path = (target_of-begins path).0

pub target_of-no_block : (path : List ℕ) → begins_block (target_of path) ≡ false
target_of-no_block path = (target_of-begins path).1

-- ---- tails

-- a byte `?` or `#` begins a tail in each syntax
pub IsTail-byte : (syntax : TargetSyntax) (b : ℕ) (bs : List ℕ) → is_tail_byte b ≡ true → IsTail syntax (b ∷ bs)
IsTail-byte syntax b bs is =
    let first = source_piece syntax in
    ap (λ p. before_tail (p ∷ read_pieces first (p.size - 1) bs)) (literal-piece syntax b bs (tail-literal b is))
    ∙ ap (λ t. if t then [] else plain b ∷ path_pieces syntax bs) is

past_ascii-literal : (b : ℕ) → 128 ≤ b → is_literal b ≡ true
past_ascii-literal b past = grind (arith, nat_tests)

ltb-past : (b : ℕ) → nat_lt b 128 ≡ false → 128 ≤ b
ltb-past b is = grind (arith, nat_tests)

-- no byte past ASCII begins a tail
not_tail : (syntax : TargetSyntax) (b : ℕ) (bs : List ℕ) → 128 ≤ b
    → path_pieces syntax (b ∷ bs) ≡ plain b ∷ path_pieces syntax bs
not_tail syntax b bs past =
    let first = source_piece syntax in
    ap (λ p. before_tail (p ∷ read_pieces first (p.size - 1) bs)) (literal-piece syntax b bs (past_ascii-literal b past))
    ∙ ap (λ t. if t then [] else plain b ∷ path_pieces syntax bs) (tail-past_ascii b past)

IsTail-ascii : (syntax : TargetSyntax) (b : ℕ) (bs : List ℕ) → IsTail syntax (b ∷ bs) → b < 128
IsTail-ascii syntax b bs is =
    by_escape (λ t. nat_lt b 128 ≡ t → b < 128) (nat_lt b 128) (λ low at. ltb-below b at)
    (λ high at. absurd (let none = not_tail syntax b bs (ltb-past b at) in cc)) refl

-- a tail begins with a character
pub IsTail-boundary : (syntax : TargetSyntax) (target : List ℕ) (k : ℕ) → k ≤ length target
    → IsTail syntax (drop k target) → IsCharBoundary target k
IsTail-boundary syntax target k within is = of (drop k target) refl is where
  of : (rest : List ℕ) → drop k target ≡ rest → IsTail syntax rest → IsCharBoundary target k
  of [] at tail =
      let count : length (drop k target) ≡ 0 = ap length at in
      let end : length target ≡ k = omega (arith, length-drop k target) in
      subst (IsCharBoundary target) end (IsCharBoundary-end target)
  of (b ∷ bs) at tail =
      let count : length (drop k target) ≡ suc (length bs) = ap length at in
      let first : get_or target k 0 ≡ b =
      ap (λ n. get_or target n 0) (omega arith) ∙ sym (get_or-drop k target 0 0) ∙ ap (λ xs. get_or xs 0 0) at in
      let low : b < 128 = IsTail-ascii syntax b bs tail in
      IsCharBoundary-before_ascii target k (omega (arith, length-drop k target)) (omega (arith, first, low))
