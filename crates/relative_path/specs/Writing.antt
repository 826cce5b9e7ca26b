-- Pieces that are written after a text.
use Rattle.std.specs.Prelude.{ℕ, List, [], ◌∷◌, ◌++◌}
use Rattle.relative_path.specs.Steps.{slash}

-- the text, a slash unless the text is empty, and the piece
abbrev pub with_piece : List ℕ → List ℕ → List ℕ
with_piece [] piece = piece
with_piece (b ∷ bs) piece = (b ∷ bs) ++ slash ∷ piece
