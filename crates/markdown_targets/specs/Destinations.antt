-- Destinations of links without angles: CommonMark 0.31.2, section 6.3.
use Rattle.std.specs.Prelude.{ℕ, ◌+◌, ◌-◌, Bool, false, not, ◌==◌, ◌&&◌, ◌||◌, nat_le, List, [], ◌∷◌, drop, Option, Some, None, if◌then◌else◌}
use Rattle.std.specs.Char.{is_ascii_punctuation}

-- the byte is a space or a control byte of ASCII other than NUL
abbrev pub is_space_or_control : ℕ → Bool
is_space_or_control b = (not (b == 0) && nat_le b 32) || b == 127

-- a URI in angles may have the byte: no space, no control byte, no `<` or `>`
abbrev pub is_of_uri : ℕ → Bool
is_of_uri b = not (is_space_or_control b) && not (b == 60) && not (b == 62)

-- a destination with so many open parentheses ends before the byte, or isn't one if a parenthesis is open. CommonMark
-- lets a reader limit how many are open, and asks for three at least; here 32 may be
abbrev pub stops : ℕ → ℕ → Bool
stops depth b = (b == 40 && depth == 32) || (b == 41 && depth == 0) || is_space_or_control b

-- how many parentheses are open after the byte
abbrev pub depth_after : ℕ → ℕ → ℕ
depth_after depth b = if b == 40 then depth + 1 else if b == 41 then depth - 1 else depth

-- the offset, if no parenthesis is open
abbrev pub end_at : ℕ → ℕ → Option ℕ
end_at depth at = if depth == 0 then Some at else None

-- where a destination ends that goes on at this offset with this text, if so many parentheses are open; `escaped` says
-- whether a backslash comes before that escapes a punctuation character
abbrev pub end_of : Bool → ℕ → ℕ → List ℕ → Option ℕ
end_of escaped depth at [] = end_at depth at
end_of escaped depth at (b ∷ bs) =
    if escaped && is_ascii_punctuation b then end_of false depth (at + 1) bs
    else if stops depth b then end_at depth at
    else end_of (b == 92) (depth_after depth b) (at + 1) bs

-- the end, if it isn't the offset itself
abbrev pub unless_at : ℕ → Option ℕ → Option ℕ
unless_at start None = None
unless_at start (Some end) = if end == start then None else Some end

-- the end of the destination at an offset, which has at least one byte
abbrev pub destination_end : List ℕ → ℕ → Option ℕ
destination_end text start = unless_at start (end_of false 0 start (drop start text))
