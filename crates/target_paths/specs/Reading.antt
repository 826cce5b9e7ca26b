-- What a target means to a reader: the text before its query and its fragment is read as a URL, and the percent signs of
-- the URL are decoded once.
use Rattle.std.specs.Prelude.{◌≡◌, ℕ, Bool, true, false, ◌==◌, ◌||◌, List, [], ◌∷◌, length, Result, Ok, Err, nat_lt, if◌then◌else◌, drop, string_bytes, ⊤}
use Rattle.std.specs.Str.{is_utf8, IsCharBoundary}
use Rattle.target_paths.specs.declared.target.TargetReading.{TargetReading}
use Rattle.target_paths.specs.declared.target.TargetReading.TheVariants.{NotRelative, Path, Unknown}
use Rattle.target_paths.specs.declared.target.TargetSyntax.{TargetSyntax}
use Rattle.target_paths.specs.declared.target.TargetSyntax.TheVariants.{Markdown, Attribute}
use Rattle.target_paths.specs.declared.target.WhyUnknown.{WhyUnknown}
use Rattle.target_paths.specs.declared.target.WhyUnknown.TheVariants.{NotUtf8}
use Rattle.target_paths.specs.Pieces.{Piece, read_pieces, bytes_of_pieces, total_size}
use Rattle.target_paths.specs.Source.{source_piece}
use Rattle.target_paths.specs.Url.{without_leading, without_trailing, is_slash, is_not_relative, url_piece}

-- the byte is `?` or `#`, which begins a query or a fragment
abbrev pub is_tail_byte : ℕ → Bool
is_tail_byte b = b == 35 || b == 63

-- a piece that is read as these bytes begins a query or a fragment
abbrev pub begins_tail : Result (List ℕ) WhyUnknown → Bool
begins_tail (Err why) = false
begins_tail (Ok []) = false
begins_tail (Ok (b ∷ [])) = is_tail_byte b
begins_tail (Ok (b ∷ c ∷ cs)) = false

-- the pieces before the first that begins a query or a fragment
abbrev pub before_tail : List Piece → List Piece
before_tail [] = []
before_tail (piece ∷ pieces) = if begins_tail piece.read then [] else piece ∷ before_tail pieces

-- the pieces of a target before its query and its fragment
abbrev pub path_pieces : TargetSyntax → List ℕ → List Piece
path_pieces syntax target = before_tail (read_pieces (source_piece syntax) 0 target)

-- the text of a URL without the control bytes and spaces that a reader removes: in Markdown none, in an attribute those
-- at the start, and those at the end if no tail follows
abbrev pub trim_url : TargetSyntax → Bool → List ℕ → List ℕ
trim_url Markdown has_tail text = text
trim_url Attribute true text = without_leading text
trim_url Attribute false text = without_trailing (without_leading text)

-- what a target means: not a relative path; the bytes of a path, and the offset of the tail; or unknown, for a reason
pub data Meaning : Type 0 where
  not_relative : Meaning
  path_before : List ℕ → ℕ → Meaning
  unknown : WhyUnknown → Meaning

-- the meaning of a target, by the bytes that its percent signs are decoded to
abbrev pub meaning_decoded : Result (List ℕ) WhyUnknown → ℕ → Meaning
meaning_decoded (Err why) tail_at = unknown why
meaning_decoded (Ok bytes) tail_at = if is_utf8 bytes then path_before bytes tail_at else unknown NotUtf8

-- the meaning of a target, by its text as a URL
abbrev pub meaning_of_url : List ℕ → ℕ → Meaning
meaning_of_url text tail_at =
    if is_not_relative text then not_relative else meaning_decoded (bytes_of_pieces (read_pieces url_piece 0 text)) tail_at

-- the meaning of a target, by the bytes that its pieces are read as
abbrev pub meaning_read : TargetSyntax → Bool → Result (List ℕ) WhyUnknown → ℕ → Meaning
meaning_read syntax has_tail (Err why) tail_at = unknown why
meaning_read syntax has_tail (Ok text) tail_at = meaning_of_url (trim_url syntax has_tail text) tail_at

-- the target has a tail
abbrev pub has_tail : List ℕ → ℕ → Bool
has_tail target tail_at = nat_lt tail_at (length target)

-- what a target means to a reader of its syntax
abbrev pub meaning : TargetSyntax → List ℕ → Meaning
meaning syntax target =
    let tail_at : ℕ = total_size (path_pieces syntax target) in
    meaning_read syntax (has_tail target tail_at) (bytes_of_pieces (path_pieces syntax target)) tail_at

-- the result has this meaning
abbrev pub Says : Meaning → TargetReading → Type 0
Says not_relative reading = reading ≡ NotRelative
Says (unknown why) reading = reading ≡ Unknown why
Says (path_before bytes tail_at) NotRelative = ⊥
Says (path_before bytes tail_at) (Path text at) = (string_bytes text ≡ bytes) × (at ≡ tail_at)
Says (path_before bytes tail_at) (Unknown why) = ⊥

-- the text is empty, or begins with a query or a fragment when it is read in this syntax
abbrev pub IsTail : TargetSyntax → List ℕ → Type 0
IsTail syntax text = path_pieces syntax text ≡ []

-- from this offset on the target is a tail, and the offset is an end of a character
pub record IsTailAt (syntax : TargetSyntax) (target : List ℕ) (tail_at : ℕ) : Type 0 where
  pub boundary : IsCharBoundary target tail_at
  pub tail : IsTail syntax (drop tail_at target)

-- the path isn't empty, and doesn't begin with a slash
abbrev pub BeginsRelative : List ℕ → Type 0
BeginsRelative [] = ⊥
BeginsRelative (b ∷ bs) = is_slash b ≡ false

-- if the result is a path, P holds of the path and of the offset of its tail
abbrev pub IfPath : TargetReading → (List ℕ → ℕ → Type 0) → Type 0
IfPath NotRelative P = ⊤
IfPath (Path path tail_at) P = P (string_bytes path) tail_at
IfPath (Unknown why) P = ⊤
