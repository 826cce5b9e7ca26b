-- How a text of a stranger is printed.
use Rattle.std.specs.Prelude.{ℕ, Bool, false, ◌||◌, ◌==◌, List, ◌++◌, chars, codes, encode_utf8, if◌then◌else◌}
use Rattle.std.specs.List.{flat_map, list_any}
use Rattle.std.specs.Char.{is_control}
use Rattle.std.specs.Fmt.{digits}
use Rattle.std.specs.Int.{is_in_range}

-- the character changes how the text around it is shown: a control, a separator of lines, a mark or an embedding of a
-- direction, a character without a width, or a tag
abbrev pub changes_text : ℕ → Bool
changes_text c = is_control c || c == 0xAD || c == 0x61C || is_in_range 0x200B 0x200B c || is_in_range 0x200E 0x200F c
    || is_in_range 0x2028 0x202E c || is_in_range 0x2066 0x2069 c || c == 0xFEFF || is_in_range 0xE0000 0xE007F c

-- what is printed for a character: a character that changes the text by its number in hexadecimal, and any other as it is
abbrev pub printed_character : ℕ → List ℕ
printed_character c = if changes_text c then codes "\\u{" ++ digits 16 false c ++ codes "}" else encode_utf8 c

-- what is printed of a text
abbrev pub printed : List ℕ → List ℕ
printed text = flat_map printed_character (chars text)

-- a character of the text changes how the text around it is shown
abbrev pub has_change : List ℕ → Bool
has_change text = list_any changes_text (chars text)
