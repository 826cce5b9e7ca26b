-- Texts that begin with bytes that are read as themselves.
use Rattle.std.proofs.Common.{◌≡◌, ℕ, zero, suc, ◌+◌, ◌-◌, ◌≤◌, Bool, true, false, ◌||◌, ◌&&◌, ◌==◌, if◌then◌else◌, nat_lt, List, [], ◌∷◌, ◌++◌, length, take, drop, slice_index, Ok, refl, sym, ap, ◌∙◌, arith}
use Rattle.std.proofs.lemmas.Bool.{and_parts}
use Rattle.std.proofs.lemmas.Bool.Decides.{nat_tests}
use Rattle.std.proofs.lemmas.Str.{encode_ascii}
use Rattle.std.specs.Char.{encode_utf8, is_ascii_punctuation}
use Rattle.std.specs.List.{list_all}
use Rattle.target_paths.specs.declared.target.TargetSyntax.{TargetSyntax}
use Rattle.target_paths.specs.declared.target.TargetSyntax.TheVariants.{Markdown, Attribute}
use Rattle.target_paths.specs.Pieces.{Piece, plain, read_pieces, append_read, bytes_of_pieces, total_size}
use Rattle.target_paths.specs.Reading.{is_tail_byte, before_tail, path_pieces}
use Rattle.target_paths.specs.Source.{character_read, byte_read, byte_piece, read_character_reference, character_reference_piece, source_piece, is_read_as_itself}
use Rattle.target_paths.specs.Url.{has_digits, digits_byte, decoded_byte, is_unencoded, url_piece}
use Rattle.target_paths.proofs.PiecesLemmas.{from_byte, from_byte-drop, length-from_byte, append_read-assoc, append_read-nil}

-- a byte that passes the test is read as itself, before whatever text
abbrev pub ReadsPlain : (List ℕ → List Piece) → (ℕ → Bool) → Type 0
ReadsPlain read p = (b : ℕ) (bs : List ℕ) → p b ≡ true → read (b ∷ bs) ≡ plain b ∷ read bs

-- what follows the bytes that are read as themselves is read by itself
pub bytes_of_pieces-plain : (read : List ℕ → List Piece) (p : ℕ → Bool) → ReadsPlain read p → (n : ℕ) (text : List ℕ)
    → list_all p (take n text) ≡ true
    → append_read (Ok (take n text)) (bytes_of_pieces (read (drop n text))) ≡ bytes_of_pieces (read text)
bytes_of_pieces-plain read p reads zero text all = append_read-nil (bytes_of_pieces (read text))
bytes_of_pieces-plain read p reads (suc n) [] all = append_read-nil (bytes_of_pieces (read []))
bytes_of_pieces-plain read p reads (suc n) (b ∷ bs) all =
    let (first, others) = and_parts (p b) (list_all p (take n bs)) all in
    append_read-assoc (Ok (b ∷ [])) (Ok (take n bs)) (bytes_of_pieces (read (drop n bs)))
    ∙ ap (append_read (Ok (b ∷ []))) (bytes_of_pieces-plain read p reads n bs others)
    ∙ sym (ap bytes_of_pieces (reads b bs first))

-- the bytes that are read as themselves, and the rest, are the whole text
pub size-plain : (read : List ℕ → List Piece) (p : ℕ → Bool) → ReadsPlain read p → (n : ℕ) (text : List ℕ)
    → n ≤ length text → list_all p (take n text) ≡ true → n + total_size (read (drop n text)) ≡ total_size (read text)
size-plain read p reads zero text within all = omega (arith)
size-plain read p reads (suc n) [] within all = absurd (omega (arith, within))
size-plain read p reads (suc n) (b ∷ bs) within all =
    let (first, others) = and_parts (p b) (list_all p (take n bs)) all in
    let rest = size-plain read p reads n bs (omega (arith, within)) others in
    let whole : total_size (read (b ∷ bs)) ≡ 1 + total_size (read bs) = ap total_size (reads b bs first) in
    omega (arith, rest, whole)

character_read-plain : (syntax : TargetSyntax) (b : ℕ) → is_read_as_itself b ≡ true → nat_lt b 128 ≡ true
    → character_read syntax b ≡ b ∷ []
character_read-plain Markdown b is below = encode_ascii b (grind (arith, nat_tests))
character_read-plain Attribute b is below = of (b == 9 || b == 10 || b == 13) (b == 92)
    (grind (arith, nat_tests)) (grind (arith, nat_tests)) where
      of : (s t : Bool) → s ≡ false → t ≡ false
          → (if s then [] else if t then 47 ∷ [] else encode_utf8 b) ≡ b ∷ []
      of true t is at = absurd (cc)
      of false true is at = absurd (cc)
      of false false is at = encode_ascii b (grind (arith, nat_tests))

byte_read-plain : (syntax : TargetSyntax) (b : ℕ) → is_read_as_itself b ≡ true → byte_read syntax b ≡ b ∷ []
byte_read-plain syntax b is = of (b == 0) (nat_lt b 128) (grind (arith, nat_tests)) refl where
  of : (s t : Bool) → s ≡ false → nat_lt b 128 ≡ t
      → (if s then encode_utf8 0xFFFD else if t then character_read syntax b else b ∷ []) ≡ b ∷ []
  of true t none at = absurd (cc)
  of false true none at = character_read-plain syntax b is at
  of false false none at = refl

source_piece-plain : (syntax : TargetSyntax) (b : ℕ) (bs : List ℕ) → is_read_as_itself b ≡ true
    → source_piece syntax b bs ≡ plain b
source_piece-plain Markdown b bs is = of (b == 92) (b == 38) (grind (arith, nat_tests)) (grind (arith, nat_tests)) where
  of : (s t : Bool) → s ≡ false → t ≡ false
      → (if s && is_ascii_punctuation (slice_index bs 0) then record { size = 2; read = Ok (slice_index bs 0 ∷ []) }
      else if t then character_reference_piece Markdown bs (read_character_reference Markdown bs) else byte_piece Markdown b) ≡ plain b
  of true t one other = absurd (cc)
  of false true one other = absurd (cc)
  of false false one other = ap (λ bytes. record { size = 1; read = Ok bytes }) (byte_read-plain Markdown b is)
source_piece-plain Attribute b bs is = of (b == 38) (grind (arith, nat_tests)) where
  of : (t : Bool) → t ≡ false
      → (if t then character_reference_piece Attribute bs (read_character_reference Attribute bs) else byte_piece Attribute b) ≡ plain b
  of true other = absurd (cc)
  of false other = ap (λ bytes. record { size = 1; read = Ok bytes }) (byte_read-plain Attribute b is)

-- a target's plain bytes, and what follows them
pub path_pieces-plain : (syntax : TargetSyntax) → ReadsPlain (path_pieces syntax) is_read_as_itself
path_pieces-plain syntax b bs is =
    ap (λ piece. before_tail (piece ∷ read_pieces (source_piece syntax) (piece.size - 1) bs)) (source_piece-plain syntax b bs is)
    ∙ of (is_tail_byte b) (grind (arith, nat_tests)) where
      of : (t : Bool) → t ≡ false → (if t then [] else plain b ∷ path_pieces syntax bs) ≡ plain b ∷ path_pieces syntax bs
      of true other = absurd (cc)
      of false other = refl

-- a URL's bytes before a percent sign, and what follows them
pub read_pieces-unencoded : ReadsPlain (read_pieces url_piece 0) is_unencoded
read_pieces-unencoded b bs is =
    ap (λ piece. piece ∷ read_pieces url_piece (piece.size - 1) bs) (of (b == 37) (grind (arith, nat_tests))) where
      of : (t : Bool) → t ≡ false
          → (if t && has_digits bs then record { size = 3; read = decoded_byte (digits_byte bs) } else plain b) ≡ plain b
      of true other = absurd (cc)
      of false other = refl

-- the same, as the code has it: the bytes are copied to an empty list, and the rest is what is left
pub bytes_of_pieces-plain-so_far : (read : List ℕ → List Piece) (p : ℕ → Bool) → ReadsPlain read p
    → (n : ℕ) (text old new : List ℕ)
    → old ≡ [] → new ≡ old ++ take n text → list_all p (take n text) ≡ true
    → append_read (Ok new) (bytes_of_pieces (read (from_byte n text))) ≡ bytes_of_pieces (read text)
bytes_of_pieces-plain-so_far read p reads n text old new empty is all =
    ap (λ bytes. append_read (Ok bytes) (bytes_of_pieces (read (from_byte n text)))) (is ∙ ap (λ bytes. bytes ++ take n text) empty)
    ∙ ap (λ rest. append_read (Ok (take n text)) (bytes_of_pieces (read rest))) (from_byte-drop n text)
    ∙ bytes_of_pieces-plain read p reads n text all

pub left-plain : (n : ℕ) (text : List ℕ) → n ≤ length text
    → from_byte n text ≡ drop (length text - length (from_byte n text)) text
left-plain n text within =
    let count = length-from_byte n text in
    let at : n ≡ length text - length (from_byte n text) = omega (arith, count, within) in
    from_byte-drop n text ∙ ap (λ k. drop k text) at

pub size-plain-so_far : (read : List ℕ → List Piece) (p : ℕ → Bool) → ReadsPlain read p → (n : ℕ) (text : List ℕ)
    → n ≤ length text → list_all p (take n text) ≡ true
    → (length text - length (from_byte n text)) + total_size (read (from_byte n text)) ≡ total_size (read text)
size-plain-so_far read p reads n text within all =
    let count = length-from_byte n text in
    let rest : total_size (read (from_byte n text)) ≡ total_size (read (drop n text)) =
    ap (λ rest. total_size (read rest)) (from_byte-drop n text) in
    let whole = size-plain read p reads n text within all in
    omega (arith, count, within, rest, whole)
