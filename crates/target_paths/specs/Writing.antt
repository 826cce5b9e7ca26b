-- How a path is written as a target, so that a reader of each syntax takes it as that path: RFC 3986, sections 2.1
-- (percent signs) and 4.2 (a colon in the first segment); CommonMark 0.31.2, sections 6.3 (destinations), 6.6 (values of
-- attributes), and 4 and 5 (what begins a block).
use Rattle.std.specs.Prelude.{◌≡◌, ℕ, ◌+◌, ◌/◌, ◌%◌, ◌-◌, Bool, not, ◌==◌, ◌&&◌, ◌||◌, nat_lt, List, [], ◌∷◌, ◌++◌, codes, length, take, if◌then◌else◌, slice_index}
use Rattle.std.specs.Char.{encode_utf8}
use Rattle.std.specs.Int.{is_in_range}
use Rattle.std.specs.List.{list_all}
use Rattle.target_paths.specs.declared.path_position.PathPosition.{PathPosition}
use Rattle.target_paths.specs.declared.path_position.PathPosition.TheVariants.{Start, Mark, FirstSegment, AfterSlash}
use Rattle.target_paths.specs.declared.target.TargetSyntax.{TargetSyntax}
use Rattle.target_paths.specs.Reading.{IsTail, Meaning, meaning}
use Rattle.target_paths.specs.Url.{is_slash, is_colon}

-- wherever it is, the byte would be read otherwise or end a target: 0 to 32, 127, and "#%&'()<=>?\`|
abbrev pub is_always_escaped : ℕ → Bool
is_always_escaped b =
    nat_lt b 33 || is_in_range 34 35 b || is_in_range 37 41 b || is_in_range 60 63 b
    || b == 92 || b == 96 || b == 124 || b == 127

-- a template may begin with the byte: `{` or `$`
abbrev pub is_template_byte : ℕ → Bool
is_template_byte b = b == 36 || b == 123

-- a block may begin with the byte: `!` (after `<`), `*`, `+` or `~`
abbrev pub is_block_byte : ℕ → Bool
is_block_byte b = b == 33 || b == 42 || b == 43 || b == 126

-- the byte is a dash or an underscore
abbrev pub is_line_byte : ℕ → Bool
is_line_byte b = b == 45 || b == 95

-- the byte is a digit
abbrev pub is_digit_byte : ℕ → Bool
is_digit_byte b = is_in_range 48 57 b

-- the last byte of a text
abbrev pub last_byte : List ℕ → ℕ
last_byte text = slice_index text (length text - 1)

-- the text may be the mark of a block: a thematic break, the underline of a heading or the mark of a list's item. It
-- consists of dashes and underscores, or begins with a digit and ends in a dot
abbrev pub is_mark : List ℕ → Bool
is_mark text = list_all is_line_byte text || is_digit_byte (slice_index text 0) && last_byte text == 46

-- a mark may begin with the byte
abbrev pub begins_mark : ℕ → Bool
begins_mark b = is_line_byte b || is_digit_byte b

-- the byte is escaped at the start of each path
abbrev pub is_escaped_at_start : ℕ → Bool
is_escaped_at_start b = is_always_escaped b || is_colon b || is_template_byte b || is_block_byte b

-- the byte is escaped at this position: in the first segment a colon too, at the start what may begin a template or a block,
-- and at the start of a mark the mark's first byte
abbrev pub is_escaped : PathPosition → ℕ → Bool
is_escaped Start b = is_escaped_at_start b
is_escaped Mark b = is_escaped_at_start b || begins_mark b
is_escaped FirstSegment b = is_always_escaped b || is_colon b
is_escaped AfterSlash b = is_always_escaped b

-- the byte is escaped somewhere after the first one of a path
abbrev pub is_escaped_later : ℕ → Bool
is_escaped_later b = is_escaped FirstSegment b

-- the byte isn't escaped after the first one of a path, wherever it is
abbrev pub is_unescaped : ℕ → Bool
is_unescaped b = not (is_escaped_later b)

-- the position at the start of a path
abbrev pub first_position : List ℕ → PathPosition
first_position path = if is_mark path then Mark else Start

-- the position after a byte
abbrev pub next_position : PathPosition → ℕ → PathPosition
next_position Start b = if is_slash b then AfterSlash else FirstSegment
next_position Mark b = if is_slash b then AfterSlash else FirstSegment
next_position FirstSegment b = if is_slash b then AfterSlash else FirstSegment
next_position AfterSlash b = AfterSlash

-- the digit of a number below 16
abbrev pub hexadecimal : ℕ → ℕ
hexadecimal digit = if nat_lt digit 10 then 48 + digit else 55 + digit

-- a percent sign and the two digits of a byte
abbrev pub percent_text : ℕ → List ℕ
percent_text b = 37 ∷ hexadecimal (b / 16) ∷ hexadecimal (b % 16) ∷ []

-- what is written for a byte
abbrev pub written_byte : Bool → ℕ → List ℕ
written_byte escaped b = if escaped then percent_text b else b ∷ []

-- what is written for a character
abbrev pub written_character : PathPosition → ℕ → List ℕ
written_character position c = if is_escaped position c then percent_text c else encode_utf8 c

-- what is written for a path's bytes from this position on
abbrev pub spelling_from : PathPosition → List ℕ → List ℕ
spelling_from position [] = []
spelling_from position (b ∷ bs) = written_byte (is_escaped position b) b ++ spelling_from (next_position position b) bs

-- the text without the slashes at its start
abbrev pub without_slashes : List ℕ → List ℕ
without_slashes [] = []
without_slashes (b ∷ bs) = if is_slash b then without_slashes bs else b ∷ bs

-- the text, or `./` in place of the empty text, which as a URL reference leads to the page itself
abbrev pub some_path : List ℕ → List ℕ
some_path [] = codes "./"
some_path (b ∷ bs) = b ∷ bs

-- the path that a target spells for a path: without slashes at its start, and `./` for an empty path
abbrev pub path_written : List ℕ → List ℕ
path_written path = some_path (without_slashes path)

-- the target that spells a path
abbrev pub spelling : List ℕ → List ℕ
spelling path = spelling_from (first_position path) path

-- the target that is written for a path
abbrev pub target_of : List ℕ → List ℕ
target_of path = spelling (path_written path)

-- new is the old text, and then so many of the target's first bytes
abbrev pub IsPartlyAppended : List ℕ → List ℕ → List ℕ → Type 0
IsPartlyAppended old target new = (count : ℕ) × (new ≡ old ++ take count target)

-- the byte is NUL, which no file's path has
abbrev pub is_nul : ℕ → Bool
is_nul b = b == 0

-- in each syntax the text has this meaning, whatever tail comes after it
abbrev pub IsTakenAs : List ℕ → Meaning → Type 0
IsTakenAs text means = (syntax : TargetSyntax) (tail : List ℕ) → IsTail syntax tail → meaning syntax (text ++ tail) ≡ means

-- the byte ends a target of some syntax: a control byte, a space, or one of "'()<=>`
abbrev pub ends_target : ℕ → Bool
ends_target b =
    nat_lt b 33 || b == 127 || b == 34 || b == 39 || b == 40 || b == 41 || b == 60 || b == 61 || b == 62 || b == 96

-- the text begins with `{` or `$`, where a template may begin
abbrev pub begins_template : List ℕ → Bool
begins_template text = is_template_byte (slice_index text 0)

-- the text may begin a block where it begins a line
abbrev pub begins_block : List ℕ → Bool
begins_block text = is_block_byte (slice_index text 0) || is_mark text
