-- The lines of an input, and the fields of a line.
use Rattle.std.specs.Prelude.{ℕ, Bool, ◌==◌, List, [], ◌∷◌, Option, Some, None}
use Rattle.std.specs.List.{slice_split}
use denote.Ref.{Bor}

-- `b'\n'`
abbrev pub line_feed : ℕ
line_feed = 10

-- `b'\t'`
abbrev pub tab : ℕ
tab = 9

-- the byte is a line feed
abbrev pub is_line_feed : ℕ → Bool
is_line_feed b = b == line_feed

-- the byte is a tab
abbrev pub is_tab : ℕ → Bool
is_tab b = b == tab

-- the piece as the last line, unless it is empty
abbrev pub last_line : List ℕ → List (List ℕ)
last_line [] = []
last_line (b ∷ bs) = (b ∷ bs) ∷ []

-- the pieces without the last, where that is empty
abbrev pub without_empty_last : List (List ℕ) → List (List ℕ)
without_empty_last [] = []
without_empty_last (piece ∷ []) = last_line piece
without_empty_last (piece ∷ next ∷ more) = piece ∷ without_empty_last (next ∷ more)

-- the input cut at each line feed; what stands after the last is a line if it isn't empty
abbrev pub lines_of : List ℕ → List (List ℕ)
lines_of input = without_empty_last (slice_split is_line_feed input)

-- the line cut at each tab
abbrev pub fields_of : List ℕ → List (List ℕ)
fields_of line = slice_split is_tab line

-- the fields of the text that is left of a line, if any is left
abbrev pub fields_left : Option (Bor (List ℕ)) → List (List ℕ)
fields_left None = []
fields_left (Some text) = fields_of text.now
