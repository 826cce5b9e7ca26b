-- Two offsets in a text.
use Rattle.std.specs.Prelude.{ℕ, ◌≤◌, ◌<◌, ◌+◌, Bool, ◌==◌, ◌&&◌, List, length, drop, slice_index, if◌then◌else◌}
use Rattle.std.specs.Char.{is_ascii_punctuation}
use Rattle.std.specs.List.{position_or_len}

-- both offsets are within the text, and the second isn't before the first
abbrev pub Skips : List ℕ → ℕ → ℕ → Type 0
Skips text from end = (from ≤ end) × (end ≤ length text)

-- both offsets are within the text, and the second is after the first
abbrev pub Advances : List ℕ → ℕ → ℕ → Type 0
Advances text from end = (from < end) × (end ≤ length text)

-- the offset of the first byte from an offset on that passes a test, or the end of the text
abbrev pub first_from : (ℕ → Bool) → List ℕ → ℕ → ℕ
first_from p text from = from + position_or_len p (drop from text)

-- the text begins with an escape: a backslash and a punctuation character
abbrev pub begins_with_escape : List ℕ → Bool
begins_with_escape text = slice_index text 0 == 92 && is_ascii_punctuation (slice_index text 1)

-- how many bytes a text has at its front: the two bytes of an escape, or one byte
abbrev pub escape_or_byte_len : List ℕ → ℕ
escape_or_byte_len text = if begins_with_escape text then 2 else 1
