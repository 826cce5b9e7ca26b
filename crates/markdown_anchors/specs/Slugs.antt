-- The slug of a heading, by which a fragment names it.
use Rattle.std.specs.Prelude.{ℕ, Bool, not, ◌==◌, ◌&&◌, ◌||◌, List, map, filter, chars, encode_utf8_all, if◌then◌else◌}
use Rattle.std.specs.StrCase.Lower.{str_to_lowercase}
use Rattle.ucd_perl.specs.Perl.{is_word_char}
use Rattle.ucd_props.specs.Binary.{is_join_control}

-- a slug keeps the character: a letter, a mark, a decimal digit or connector punctuation; a dash or a space
abbrev pub is_kept : ℕ → Bool
is_kept c = (is_word_char c && not (is_join_control c)) || c == 45 || c == 32

-- what a slug has for a character that it keeps: a dash for a space
abbrev pub dashed : ℕ → ℕ
dashed c = if c == 32 then 45 else c

-- the slug of a text: the characters that are kept of the text in lower case, each space as a dash
abbrev pub slug : List ℕ → List ℕ
slug text = encode_utf8_all (map dashed (filter is_kept (chars (str_to_lowercase text))))
