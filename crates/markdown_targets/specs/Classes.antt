-- Classes of bytes.
use Rattle.std.specs.Prelude.{ℕ, Bool, not, ◌==◌, ◌&&◌, ◌||◌, nat_lt, nat_le}
use Rattle.std.specs.Char.{is_ascii_alphabetic, is_ascii_alphanumeric, is_ascii_digit}

-- the byte ends a line
abbrev pub is_line_end : ℕ → Bool
is_line_end b = b == 10 || b == 13

-- the byte is a space or a tab
abbrev pub is_blank : ℕ → Bool
is_blank b = b == 32 || b == 9

-- the byte is a space or a tab, or ends a line
abbrev pub is_space : ℕ → Bool
is_space b = is_blank b || is_line_end b

-- an inline or an escape may begin or end with the byte: `!`, `<`, `[`, a backslash, `]` or a backtick
abbrev pub is_special : ℕ → Bool
is_special b = b == 33 || b == 60 || b == 91 || b == 92 || b == 93 || b == 96

-- no inline and no escape begins or ends with the byte, if this one follows: `!` begins an image only before `[`
abbrev pub is_only_text : ℕ → ℕ → Bool
is_only_text b next = not (is_special b) || (b == 33 && not (next == 91))

-- a destination may end with the byte, or parentheses or an escape may begin or end with it: a control byte, a space,
-- `(`, `)` or a backslash
abbrev pub is_destination_mark : ℕ → Bool
is_destination_mark b = nat_le b 32 || b == 40 || b == 41 || b == 92 || b == 127

-- the byte is the first one of a character
abbrev pub begins_character : ℕ → Bool
begins_character b = nat_lt b 128 || nat_le 192 b

-- the scheme of an autolink may have the byte: a letter, a digit, `+`, `.` or `-`
abbrev pub is_of_scheme : ℕ → Bool
is_of_scheme b = is_ascii_alphanumeric b || b == 43 || b == 46 || b == 45

-- the domain of an address may have the byte: a letter, a digit, `.` or `-`
abbrev pub is_of_domain : ℕ → Bool
is_of_domain b = is_ascii_alphanumeric b || b == 46 || b == 45

-- the name of a tag may have the byte: a letter, a digit or `-`
abbrev pub is_of_tag : ℕ → Bool
is_of_tag b = is_ascii_alphanumeric b || b == 45

-- the name of an attribute may begin with the byte: a letter, `_` or `:`
abbrev pub begins_attribute : ℕ → Bool
begins_attribute b = is_ascii_alphabetic b || b == 95 || b == 58

-- the name of an attribute may have the byte: one with which it may begin, a digit, `.` or `-`
abbrev pub is_of_attribute : ℕ → Bool
is_of_attribute b = begins_attribute b || is_ascii_digit b || b == 46 || b == 45

-- a value without quotes may have the byte: no space, no quote, no `=`, `<`, `>` or backtick
abbrev pub is_of_value : ℕ → Bool
is_of_value b = not (is_space b) && not (b == 34 || b == 39 || b == 61 || b == 60 || b == 62 || b == 96)
