-- Relative URLs: RFC 3986, sections 3.1 (schemes), 4.2 (relative references) and 2.1 (percent signs), and the URL
-- standard, section 4.4 (what goes at both ends).
use Rattle.std.specs.Prelude.{ℕ, ◌+◌, ◌*◌, Bool, not, ◌==◌, ◌&&◌, ◌||◌, nat_le, List, [], ◌∷◌, length, Result, Ok, Err, if◌then◌else◌, slice_index}
use Rattle.std.specs.List.{before_first, list_any, list_all}
use Rattle.std.specs.Char.{digit_value, is_digit, is_ascii_alphabetic, is_ascii_alphanumeric}
use Rattle.target_paths.specs.declared.target.WhyUnknown.{WhyUnknown}
use Rattle.target_paths.specs.declared.target.WhyUnknown.TheVariants.{EncodedSlash, EncodedNul}
use Rattle.target_paths.specs.Pieces.{Piece, plain}

-- a control byte of ASCII or a space
abbrev pub is_blank : ℕ → Bool
is_blank b = nat_le b 32

-- the text without control bytes and spaces at its start
abbrev pub without_leading : List ℕ → List ℕ
without_leading [] = []
without_leading (b ∷ bs) = if is_blank b then without_leading bs else b ∷ bs

-- the byte before a text; a control byte or a space before the empty text is removed
abbrev pub before_text : ℕ → List ℕ → List ℕ
before_text b [] = if is_blank b then [] else b ∷ []
before_text b (c ∷ cs) = b ∷ c ∷ cs

-- the text without control bytes and spaces at its end
abbrev pub without_trailing : List ℕ → List ℕ
without_trailing [] = []
without_trailing (b ∷ bs) = before_text b (without_trailing bs)

-- `b'/'`
abbrev pub slash : ℕ
slash = 47

-- the byte is a slash
abbrev pub is_slash : ℕ → Bool
is_slash b = b == slash

-- the byte is a colon
abbrev pub is_colon : ℕ → Bool
is_colon b = b == 58

-- the byte may be in a scheme
abbrev pub is_scheme_byte : ℕ → Bool
is_scheme_byte b = is_ascii_alphanumeric b || b == 43 || b == 45 || b == 46

-- the text is a scheme: a letter, then letters, digits, `+`, `-` and `.`
abbrev pub is_scheme : List ℕ → Bool
is_scheme text = is_ascii_alphabetic (slice_index text 0) && list_all is_scheme_byte text

-- the text begins with a scheme and a colon
abbrev pub has_scheme : List ℕ → Bool
has_scheme text = list_any is_colon text && is_scheme (before_first is_colon text)

-- the text isn't relative to the page's directory: it is empty, has a scheme, or begins with a slash
abbrev pub is_not_relative : List ℕ → Bool
is_not_relative text = length text == 0 || is_slash (slice_index text 0) || has_scheme text

-- what a percent sign and two hexadecimal digits are read as, by the byte that the digits write
abbrev pub decoded_byte : ℕ → Result (List ℕ) WhyUnknown
decoded_byte b = if b == 0 then Err EncodedNul else if is_slash b then Err EncodedSlash else Ok (b ∷ [])

-- the text begins with two hexadecimal digits
abbrev pub has_digits : List ℕ → Bool
has_digits text = is_digit (slice_index text 0) 16 && is_digit (slice_index text 1) 16

-- the byte that the two digits write
abbrev pub digits_byte : List ℕ → ℕ
digits_byte text = 16 * digit_value (slice_index text 0) + digit_value (slice_index text 1)

-- the piece that a byte of a URL's path and the text after it begin with
abbrev pub url_piece : ℕ → List ℕ → Piece
url_piece b text =
    if b == 37 && has_digits text then record { size = 3; read = decoded_byte (digits_byte text) } else plain b

-- the byte is a percent sign
abbrev pub is_percent : ℕ → Bool
is_percent b = b == 37

-- a byte that is no percent sign
abbrev pub is_unencoded : ℕ → Bool
is_unencoded b = not (is_percent b)
