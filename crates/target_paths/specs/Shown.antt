-- What the code's pieces and errors mean in the words of the definitions.
use Rattle.std.specs.Prelude.{◌≡◌, ◌≤◌, length, drop, ℕ, Bool, true, not, ◌==◌, ◌&&◌, List, [], ◌∷◌, ◌++◌, Result, Ok, Err, ⊤}
use Rattle.std.specs.Char.{encode_utf8}
use Rattle.character_names.specs.declared.characters.Characters.{Characters}
use Rattle.character_names.specs.declared.characters.Characters.TheVariants.{One, Two}
use Rattle.target_paths.specs.declared.piece.Piece as code
use Rattle.target_paths.specs.declared.piece.Read.{Read}
use Rattle.target_paths.specs.declared.piece.Read.TheVariants.{Byte, Character, Pair, Nothing, Unknown}
use Rattle.target_paths.specs.declared.piece.ReadError.{ReadError}
use Rattle.target_paths.specs.declared.piece.ReadError.TheVariants as error
use Rattle.target_paths.specs.declared.target.TargetSyntax.{TargetSyntax}
use Rattle.target_paths.specs.declared.target.WhyUnknown.{WhyUnknown}
use Rattle.target_paths.specs.Pieces.{Piece, total_size}
use Rattle.target_paths.specs.Reading.{Meaning, unknown, path_pieces, IsTail}
use Rattle.target_paths.specs.Source.{is_tab_or_line_end}

-- the bytes that a piece is read as, or why these aren't known
abbrev pub read_bytes : Read → Result (List ℕ) WhyUnknown
read_bytes (Byte b) = Ok (b ∷ [])
read_bytes (Character c) = Ok (encode_utf8 c)
read_bytes (Pair c d) = Ok (encode_utf8 c ++ encode_utf8 d)
read_bytes Nothing = Ok []
read_bytes (Unknown why) = Err why

-- the character is read as itself in each syntax
abbrev pub is_plain_character : ℕ → Bool
is_plain_character c = not (is_tab_or_line_end c) && not (c == 92)

-- if these are two characters, each is read as itself in each syntax
abbrev pub is_plain_pair : Characters → Bool
is_plain_pair (One c) = true
is_plain_pair (Two c d) = is_plain_character c && is_plain_character d

-- the piece of the definitions that a piece of the code is
abbrev pub piece_of : code.Piece → Piece
piece_of piece = record { size = piece.size; read = read_bytes piece.read }

-- the error says why a text isn't known, or that memory ran out
abbrev pub SaysWhy : Result (List ℕ) WhyUnknown → ReadError → Type 0
SaysWhy read (error.Unknown why) = read ≡ Err why
SaysWhy read error.OutOfMemory = ⊤

-- the error says why the meaning of a target isn't known, or that memory ran out
abbrev pub SaysWhyOfTarget : Meaning → ReadError → Type 0
SaysWhyOfTarget meaning (error.Unknown why) = meaning ≡ unknown why
SaysWhyOfTarget meaning error.OutOfMemory = ⊤

-- the rest of a target after its path is a tail
abbrev pub HasTail : TargetSyntax → List ℕ → Type 0
HasTail syntax target =
    let tail_at : ℕ = total_size (path_pieces syntax target) in
    (tail_at ≤ length target) × IsTail syntax (drop tail_at target)
