-- Targets read up to their tail, and what they mean.
use Rattle.std.proofs.Common.{◌≡◌, ℕ, ◌<◌, ◌≤◌, Bool, true, false, if◌then◌else◌, nat_lt, List, [], ◌∷◌, ◌++◌, length, get_or, Result, Ok, refl, sym, ap, ap₂, ◌∙◌, arith}
use Rattle.std.proofs.lemmas.Bool.Decides.{nat_tests}
use Rattle.std.proofs.lemmas.List.{length-append}
use Rattle.std.proofs.lemmas.Str.{encode_ascii, len_utf8_bounds, length-encode, IsUtf8-from_is_utf8, is_utf8-from_IsUtf8}
use Rattle.std.specs.Char.{encode_utf8, len_utf8}
use Rattle.std.specs.Str.{is_utf8, IsUtf8}
use Rattle.target_paths.specs.declared.target.TargetSyntax.{TargetSyntax}
use Rattle.target_paths.specs.declared.target.WhyUnknown.{WhyUnknown}
use Rattle.target_paths.specs.declared.target.WhyUnknown.TheVariants.{NotUtf8}
use Rattle.target_paths.specs.Pieces.{Piece, read_pieces, bytes_of_pieces, total_size}
use Rattle.target_paths.specs.Reading.{is_tail_byte, begins_tail, before_tail, path_pieces, not_relative, path_before, unknown, meaning_decoded, meaning_of_url, meaning_read, has_tail, meaning}
use Rattle.target_paths.specs.Source.{source_piece}
use Rattle.target_paths.specs.Url.{is_not_relative, url_piece}
use Rattle.target_paths.proofs.PiecesLemmas.{from_byte, read_pieces-left}

-- ---- what begins a tail

no_tail-long : (xs : List ℕ) → 2 ≤ length xs → begins_tail (Ok xs) ≡ false
no_tail-long [] long = absurd (omega (arith, long))
no_tail-long (x ∷ []) long = absurd (omega (arith, long))
no_tail-long (x ∷ y ∷ xs) long = refl

pub tail-past_ascii : (c : ℕ) → 128 ≤ c → is_tail_byte c ≡ false
tail-past_ascii c past = grind (arith, nat_tests)

len_utf8-past_ascii : (c : ℕ) → 128 ≤ c → 2 ≤ len_utf8 c
len_utf8-past_ascii c past = grind (arith, nat_tests)

pub begins_tail-character : (c : ℕ) → begins_tail (Ok (encode_utf8 c)) ≡ is_tail_byte c
begins_tail-character c = of (nat_lt c 128) refl where
  of : (t : Bool) → nat_lt c 128 ≡ t → begins_tail (Ok (encode_utf8 c)) ≡ is_tail_byte c
  of true below = ap (λ bs. begins_tail (Ok bs)) (encode_ascii c (grind (arith, nat_tests)))
  of false past =
      let above : 128 ≤ c = grind (arith, nat_tests) in
      no_tail-long (encode_utf8 c) (omega (arith, length-encode c, len_utf8-past_ascii c above))
      ∙ sym (tail-past_ascii c above)

-- two characters begin no tail
pub begins_tail-pair : (c d : ℕ) → begins_tail (Ok (encode_utf8 c ++ encode_utf8 d)) ≡ false
begins_tail-pair c d =
    let some : 1 ≤ len_utf8 c = (len_utf8_bounds c).0 in
    let more : 1 ≤ len_utf8 d = (len_utf8_bounds d).0 in
    let count = length-append (encode_utf8 c) (encode_utf8 d) in
    no_tail-long (encode_utf8 c ++ encode_utf8 d) (omega (arith, length-encode c, length-encode d, some, more, count))

-- ---- the path's pieces

-- a target whose first piece doesn't begin the tail
pub path_pieces-next : (syntax : TargetSyntax) (left : List ℕ) (piece : Piece) → 1 ≤ length left
    → piece ≡ source_piece syntax (get_or left 0 0) (from_byte 1 left) → 0 < piece.size → begins_tail piece.read ≡ false
    → path_pieces syntax left ≡ piece ∷ path_pieces syntax (from_byte piece.size left)
path_pieces-next syntax left piece some is size none =
    ap before_tail (read_pieces-left (source_piece syntax) left piece some is size)
    ∙ ap (λ t. if t then [] else piece ∷ path_pieces syntax (from_byte piece.size left)) none

-- ---- what a target means

-- the meaning of a target, by what its path is read as
pub meaning-read : (syntax : TargetSyntax) (target : List ℕ) (read : Result (List ℕ) WhyUnknown) (tail_at : ℕ)
    → bytes_of_pieces (path_pieces syntax target) ≡ read → tail_at ≡ total_size (path_pieces syntax target)
    → meaning syntax target ≡ meaning_read syntax (nat_lt tail_at (length target)) read tail_at
meaning-read syntax target read tail_at is at =
    ap₂ (λ r n. meaning_read syntax (has_tail target n) r n) is (sym at)

pub meaning-decoded : (text : List ℕ) (read : Result (List ℕ) WhyUnknown) (tail_at : ℕ) → is_not_relative text ≡ false
    → bytes_of_pieces (read_pieces url_piece 0 text) ≡ read → meaning_of_url text tail_at ≡ meaning_decoded read tail_at
meaning-decoded text read tail_at is decoded =
    ap (λ t. if t then not_relative else meaning_decoded (bytes_of_pieces (read_pieces url_piece 0 text)) tail_at) is
    ∙ ap (λ r. meaning_decoded r tail_at) decoded

pub meaning-utf8 : (bytes : List ℕ) (tail_at : ℕ) → IsUtf8 bytes → meaning_decoded (Ok bytes) tail_at ≡ path_before bytes tail_at
meaning-utf8 bytes tail_at is =
    ap (λ t. if t then path_before bytes tail_at else unknown NotUtf8) (is_utf8-from_IsUtf8 bytes is)

pub meaning-not_utf8 : (bytes : List ℕ) (tail_at : ℕ) → ¬ IsUtf8 bytes
    → meaning_decoded (Ok bytes) tail_at ≡ unknown NotUtf8
meaning-not_utf8 bytes tail_at not = of (is_utf8 bytes) refl where
  of : (t : Bool) → is_utf8 bytes ≡ t → (if t then path_before bytes tail_at else unknown NotUtf8) ≡ unknown NotUtf8
  of true is = absurd (not (IsUtf8-from_is_utf8 bytes is))
  of false is = refl

-- ---- the same facts, as the code has them
