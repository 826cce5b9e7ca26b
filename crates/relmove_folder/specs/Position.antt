-- Lines and columns of a text. Both begin at 1, columns count characters, and the greatest `usize` stays as it is.
use Rattle.std.specs.Prelude.{ℕ, ◌+◌, ◌-◌, ◌^◌, min, Bool, ◌==◌, if◌then◌else◌, List}
use Rattle.std.specs.List.{fold}
use Rattle.markdown_targets.specs.Classes.{begins_character}
use Rattle.relmove_folder.specs.declared.position.Position.{Position}

-- the byte ends a line
abbrev pub is_line_end : ℕ → Bool
is_line_end byte = byte == 10

-- the number after this one
abbrev pub next : ℕ → ℕ
next n = min (n + 1) (2 ^ 64 - 1)

-- where a text begins
abbrev pub first_place : Position
first_place = record { line = 1; column = 1 }

-- the place after one more byte: the next line after a line end, the next column after a character's first byte
abbrev pub after_byte : Position → ℕ → Position
after_byte here byte =
    if is_line_end byte then record { line = next here.line; column = 1 }
    else if begins_character byte then record { line = here.line; column = next here.column }
    else here

-- the place after a text that begins here
abbrev pub position_after : Position → List ℕ → Position
position_after here text = fold after_byte here text
