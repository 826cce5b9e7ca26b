-- The pieces of a target as a page has it: CommonMark 0.31.2, sections 2.3 (NUL), 2.4 (backslash escapes) and 2.5
-- (character references); of an attribute, the tokenizer of the HTML standard, section 13.2.5.73 (named character
-- references), and the URL standard's section 4.4, by which tabs and line ends go and a backslash is a slash.
use Rattle.std.specs.Prelude.{ℕ, ◌+◌, ◌-◌, Bool, false, not, ◌==◌, ◌&&◌, ◌||◌, nat_lt, List, [], ◌∷◌, ◌++◌, length, drop, Option, Some, None, Ok, Err, if◌then◌else◌, slice_index}
use Rattle.std.specs.Char.{encode_utf8, is_ascii_alphabetic, is_ascii_alphanumeric, is_ascii_punctuation}
use Rattle.std.specs.Int.{is_in_range}
use Rattle.std.specs.Option.{is_some, option_map}
use Rattle.character_names.specs.declared.characters.Characters.{Characters}
use Rattle.character_names.specs.declared.characters.Characters.TheVariants.{One, Two}
use Rattle.character_names.specs.Names.{longest_name}
use Rattle.target_paths.specs.declared.target.TargetSyntax.{TargetSyntax}
use Rattle.target_paths.specs.declared.target.TargetSyntax.TheVariants.{Markdown, Attribute}
use Rattle.target_paths.specs.declared.target.WhyUnknown.TheVariants.{CharacterReference}
use Rattle.target_paths.specs.Pieces.{Piece, plain}
use Rattle.target_paths.specs.CharacterReferences.{body_of, is_closed, character_of, body_number, is_name}

-- a tab or the end of a line
abbrev pub is_tab_or_line_end : ℕ → Bool
is_tab_or_line_end c = c == 9 || c == 10 || c == 13

-- the bytes that a character is read as: in an attribute tabs and line ends are removed, and a backslash is a slash
abbrev pub character_read : TargetSyntax → ℕ → List ℕ
character_read Markdown c = encode_utf8 c
character_read Attribute c =
    if is_tab_or_line_end c then []
    else if c == 92 then 47 ∷ []
    else encode_utf8 c

-- the bytes that a byte is read as, outside character references and escapes: NUL is read as U+FFFD
abbrev pub byte_read : TargetSyntax → ℕ → List ℕ
byte_read syntax b =
    if b == 0 then encode_utf8 0xFFFD
    else if nat_lt b 128 then character_read syntax b
    else b ∷ []

-- the piece that is one byte
abbrev pub byte_piece : TargetSyntax → ℕ → Piece
byte_piece syntax b = record { size = 1; read = Ok (byte_read syntax b) }

-- a number for which browsers take another character
abbrev pub is_replaced : TargetSyntax → ℕ → Bool
is_replaced Markdown number = false
is_replaced Attribute number = is_in_range 128 159 number

-- the character of a number, unless browsers take another
abbrev pub character_unless_replaced : TargetSyntax → Option ℕ → Option ℕ
character_unless_replaced syntax None = None
character_unless_replaced syntax (Some number) = if is_replaced syntax number then None else Some (character_of number)

-- the bytes that one or two characters are read as
abbrev pub characters_read : TargetSyntax → Characters → List ℕ
characters_read syntax (One c) = character_read syntax c
characters_read syntax (Two c d) = character_read syntax c ++ character_read syntax d

-- the piece of a character reference of so many bytes
abbrev pub known_piece : TargetSyntax → ℕ → Characters → Piece
known_piece syntax size characters = record { size = size; read = Ok (characters_read syntax characters) }

-- the piece of a number, by the text after the `&`, with the semicolon at its end
abbrev pub numeric_piece : TargetSyntax → List ℕ → Option Piece
numeric_piece syntax text =
    if is_closed text
    then option_map (λ c. known_piece syntax (length (body_of text) + 2) (One c))
    (character_unless_replaced syntax (body_number (body_of text)))
    else None

-- before this text, a name without a semicolon is no character reference: the text begins with `=`, a letter or a digit
abbrev pub goes_on : List ℕ → Bool
goes_on text = is_ascii_alphanumeric (slice_index text 0) || slice_index text 0 == 61

-- a name with this last byte, before this text, is a character reference: it ends in a semicolon, as it has to in Markdown
abbrev pub ends_reference : TargetSyntax → ℕ → List ℕ → Bool
ends_reference Markdown last text = last == 59
ends_reference Attribute last text = last == 59 || not (goes_on text)

-- the piece of the longest name that the text after the `&` begins with, if that is a character reference
abbrev pub named_piece : TargetSyntax → List ℕ → Option (ℕ × Characters) → Option Piece
named_piece syntax text None = None
named_piece syntax text (Some (n, characters)) =
    if ends_reference syntax (slice_index text (n - 1)) (drop n text) then Some (known_piece syntax (n + 1) characters) else None

-- the piece of a character reference that is known, by the text after its `&`
abbrev pub read_character_reference : TargetSyntax → List ℕ → Option Piece
read_character_reference syntax text =
    if slice_index text 0 == 35 then numeric_piece syntax text else named_piece syntax text (longest_name text)

-- an `&` before this text doesn't begin a known character reference, but may begin another: in an attribute not before a
-- known name, which is text then
abbrev pub may_begin_character_reference : TargetSyntax → List ℕ → Bool
may_begin_character_reference Markdown text = is_closed text && is_name (body_of text)
may_begin_character_reference Attribute text =
    slice_index text 0 == 35 || is_ascii_alphabetic (slice_index text 0) && not (is_some (longest_name text))

-- the piece of an `&` before this text: a character reference, an unknown one, or the `&` itself
abbrev pub character_reference_piece : TargetSyntax → List ℕ → Option Piece → Piece
character_reference_piece syntax text (Some piece) = piece
character_reference_piece syntax text None =
    if may_begin_character_reference syntax text then record { size = 1; read = Err CharacterReference } else plain 38

-- a backslash before this byte escapes it
abbrev pub is_escape : TargetSyntax → ℕ → ℕ → Bool
is_escape Markdown b next = b == 92 && is_ascii_punctuation next
is_escape Attribute b next = false

-- the piece that a byte and the text after it begin with
abbrev pub source_piece : TargetSyntax → ℕ → List ℕ → Piece
source_piece syntax b text =
    if is_escape syntax b (slice_index text 0) then record { size = 2; read = Ok (slice_index text 0 ∷ []) }
    else if b == 38 then character_reference_piece syntax text (read_character_reference syntax text)
    else byte_piece syntax b

-- a byte that is read otherwise than as itself in some syntax, or begins a query or a fragment
abbrev pub is_read_otherwise : ℕ → Bool
is_read_otherwise b = b == 0 || b == 9 || b == 10 || b == 13 || b == 35 || b == 38 || b == 63 || b == 92

-- a byte that is read as itself in each syntax, and begins no query and no fragment
abbrev pub is_read_as_itself : ℕ → Bool
is_read_as_itself b = not (is_read_otherwise b)
