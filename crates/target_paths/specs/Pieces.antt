-- Texts read piece by piece.
use Rattle.std.specs.Prelude.{ℕ, zero, suc, ◌+◌, ◌-◌, List, [], ◌∷◌, ◌++◌, Result, Ok, Err}
use Rattle.target_paths.specs.declared.target.WhyUnknown.{WhyUnknown}

-- a piece of a text: how many bytes it has, and the bytes that it is read as, or why these aren't known
pub record Piece : Type 0 where
  pub size : ℕ
  pub read : Result (List ℕ) WhyUnknown

-- a byte that is read as itself
abbrev pub plain : ℕ → Piece
plain b = record { size = 1; read = Ok (b ∷ []) }

-- the pieces of a text after its first `skip` bytes; `first` returns the piece that begins with a byte, given the bytes
-- after it
abbrev pub read_pieces : (ℕ → List ℕ → Piece) → ℕ → List ℕ → List Piece
read_pieces first skip [] = []
read_pieces first zero (b ∷ bs) = first b bs ∷ read_pieces first ((first b bs).size - 1) bs
read_pieces first (suc skip) (b ∷ bs) = read_pieces first skip bs

-- two results, one after another: the bytes of both, or the first reason why they aren't known
abbrev pub append_read : Result (List ℕ) WhyUnknown → Result (List ℕ) WhyUnknown → Result (List ℕ) WhyUnknown
append_read (Err why) rest = Err why
append_read (Ok bytes) (Err why) = Err why
append_read (Ok bytes) (Ok rest) = Ok (bytes ++ rest)

-- the bytes that pieces are read as, or why the first unknown piece isn't known
abbrev pub bytes_of_pieces : List Piece → Result (List ℕ) WhyUnknown
bytes_of_pieces [] = Ok []
bytes_of_pieces (piece ∷ pieces) = append_read piece.read (bytes_of_pieces pieces)

-- how many bytes some pieces have
abbrev pub total_size : List Piece → ℕ
total_size [] = 0
total_size (piece ∷ pieces) = piece.size + total_size pieces
