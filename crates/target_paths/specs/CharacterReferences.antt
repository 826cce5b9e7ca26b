-- Character references: CommonMark 0.31.2, section 2.5, "Entity and numeric character references".
use Rattle.std.specs.Prelude.{ℕ, ◌+◌, Bool, ◌==◌, ◌&&◌, ◌||◌, not, nat_lt, List, length, drop, Option, Some, None, if◌then◌else◌, slice_index}
use Rattle.std.specs.List.{before_first, list_all}
use Rattle.std.specs.Str.Parse.{digits_value}
use Rattle.std.specs.Char.{is_ascii_alphanumeric, is_ascii_alphabetic, is_digit}
use lib.Utf8.{scalar}

-- the byte is no letter, no digit and no `#`
abbrev pub ends_body : ℕ → Bool
ends_body b = not (is_ascii_alphanumeric b || b == 35)

-- the body of a character reference: the letters, digits and `#` at the start of the text after the `&`
abbrev pub body_of : List ℕ → List ℕ
body_of text = before_first ends_body text

-- a semicolon comes after the body
abbrev pub is_closed : List ℕ → Bool
is_closed text = slice_index text (length (body_of text)) == 59

-- the character of a number: U+FFFD for 0, for a surrogate and past U+10FFFF
abbrev pub character_of : ℕ → ℕ
character_of number = if scalar number && not (number == 0) then number else 0xFFFD

-- the text consists of digits, at least one and at most `most`
abbrev pub are_digits : ℕ → ℕ → List ℕ → Bool
are_digits radix most digits =
    nat_lt 0 (length digits) && nat_lt (length digits) (most + 1) && list_all (λ b. is_digit b radix) digits

-- the number that the digits write
abbrev pub number_of : ℕ → ℕ → List ℕ → Option ℕ
number_of radix most digits = if are_digits radix most digits then Some (digits_value radix digits) else None

-- the byte is `x` or `X`
abbrev pub is_x : ℕ → Bool
is_x b = b == 120 || b == 88

-- the number in a body: after `#x` one to six hexadecimal digits, after `#` one to seven decimal ones
abbrev pub body_number : List ℕ → Option ℕ
body_number body =
    if not (slice_index body 0 == 35) then None
    else if is_x (slice_index body 1) then number_of 16 6 (drop 2 body)
    else number_of 10 7 (drop 1 body)

-- the body has the form of a name: a letter, and then letters and digits
abbrev pub is_name : List ℕ → Bool
is_name body = is_ascii_alphabetic (slice_index body 0) && list_all is_ascii_alphanumeric body
