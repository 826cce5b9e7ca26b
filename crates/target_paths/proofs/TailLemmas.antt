-- What a reading says of its tail and of its path.
use Rattle.std.proofs.Common.{◌≡◌, ℕ, ◌-◌, Bool, true, false, ◌||◌, ◌&&◌, ◌==◌, if◌then◌else◌, List, [], ◌∷◌, length, Result, Ok, Err, refl, sym, subst, string_bytes}
use Rattle.std.proofs.lemmas.Bool.{or_parts}
use Rattle.std.specs.Str.{is_utf8}
use Rattle.target_paths.specs.declared.target.TargetReading.{TargetReading}
use Rattle.target_paths.specs.declared.target.TargetReading.TheVariants.{NotRelative, Path, Unknown}
use Rattle.target_paths.specs.declared.target.TargetSyntax.{TargetSyntax}
use Rattle.target_paths.specs.declared.target.WhyUnknown.{WhyUnknown}
use Rattle.target_paths.specs.declared.target.WhyUnknown.TheVariants.{EncodedNul, EncodedSlash, NotUtf8}
use Rattle.target_paths.specs.Pieces.{plain, read_pieces, append_read, bytes_of_pieces, total_size}
use Rattle.target_paths.specs.Reading.{path_pieces, trim_url, not_relative, path_before, unknown, meaning_decoded, meaning_of_url, meaning_read, has_tail, meaning, Says, IsTailAt, BeginsRelative, IfPath}
use Rattle.target_paths.specs.Shown.{HasTail}
use Rattle.target_paths.specs.Url.{is_slash, has_scheme, is_not_relative, decoded_byte, has_digits, digits_byte, url_piece}
use Rattle.target_paths.proofs.RoundTripLemmas.{by_escape, IsTail-boundary}

-- ---- a path isn't empty, and doesn't begin with a slash

-- if the text that was read is known, it begins so
abbrev ReadsRelative : Result (List ℕ) WhyUnknown → Type 0
ReadsRelative (Err why) = Unit {0}
ReadsRelative (Ok bytes) = BeginsRelative bytes

append_read-relative : (read others : Result (List ℕ) WhyUnknown) → ReadsRelative read → ReadsRelative (append_read read others)
append_read-relative (Err why) others is = tt
append_read-relative (Ok []) others is = absurd is
append_read-relative (Ok (b ∷ bs)) (Err why) is = tt
append_read-relative (Ok (b ∷ bs)) (Ok cs) is = is

decoded_byte-relative : (b : ℕ) → ReadsRelative (decoded_byte b)
decoded_byte-relative b =
    by_escape (λ t. ReadsRelative (if t then Err EncodedNul else if is_slash b then Err EncodedSlash else Ok (b ∷ []))) (b == 0)
    (λ nul. tt)
    (λ some. by_escape (λ t. is_slash b ≡ t → ReadsRelative (if t then Err EncodedSlash else Ok (b ∷ []))) (is_slash b)
    (λ slash at. tt) (λ other at. at) refl)

url_piece-relative : (b : ℕ) (rest : List ℕ) → is_slash b ≡ false → ReadsRelative (url_piece b rest).read
url_piece-relative b rest other =
    by_escape (λ t. ReadsRelative (if t then record { size = 3; read = decoded_byte (digits_byte rest) } else plain b).read)
    (b == 37 && has_digits rest)
    (λ escape. decoded_byte-relative (digits_byte rest)) (λ none. other)

decoded-relative : (text : List ℕ) → is_not_relative text ≡ false → ReadsRelative (bytes_of_pieces (read_pieces url_piece 0 text))
decoded-relative [] relative = absurd (cc)
decoded-relative (b ∷ rest) relative =
    let (some, scheme) = or_parts (length (b ∷ rest) == 0 || is_slash b) (has_scheme (b ∷ rest)) relative in
    append_read-relative (url_piece b rest).read (bytes_of_pieces (read_pieces url_piece ((url_piece b rest).size - 1) rest))
    (url_piece-relative b rest (or_parts (length (b ∷ rest) == 0) (is_slash b) some).1)

-- ---- what a reading says

says-decoded : (read : Result (List ℕ) WhyUnknown) (n : ℕ) (reading : TargetReading) → ReadsRelative read
    → Says (meaning_decoded read n) reading → IfPath reading (λ path at. (at ≡ n) × BeginsRelative path)
says-decoded read n NotRelative relative says = tt
says-decoded read n (Unknown why) relative says = tt
says-decoded (Err why) n (Path path at) relative says = absurd (cc)
says-decoded (Ok bytes) n (Path path at) relative says = of (is_utf8 bytes) says where
  of : (t : Bool) → Says (if t then path_before bytes n else unknown NotUtf8) (Path path at)
      → (at ≡ n) × BeginsRelative (string_bytes path)
  of true (same, count) = (count, subst BeginsRelative (sym same) relative)
  of false other = absurd (cc)

says-url : (text : List ℕ) (n : ℕ) (reading : TargetReading) → Says (meaning_of_url text n) reading
    → IfPath reading (λ path at. (at ≡ n) × BeginsRelative path)
says-url text n reading says =
    by_escape
    (λ t. is_not_relative text ≡ t
    → Says (if t then not_relative else meaning_decoded (bytes_of_pieces (read_pieces url_piece 0 text)) n) reading
    → IfPath reading (λ path at. (at ≡ n) × BeginsRelative path))
    (is_not_relative text)
    (λ keeps at told. not_relative-none reading told)
    (λ relative at told. says-decoded (bytes_of_pieces (read_pieces url_piece 0 text)) n reading (decoded-relative text at) told)
    refl says where
      not_relative-none : (reading : TargetReading) → Says not_relative reading
          → IfPath reading (λ path at. (at ≡ n) × BeginsRelative path)
      not_relative-none NotRelative told = tt
      not_relative-none (Unknown why) told = tt
      not_relative-none (Path path at) told = absurd (cc)

says-read : (syntax : TargetSyntax) (tail : Bool) (read : Result (List ℕ) WhyUnknown) (n : ℕ) (reading : TargetReading)
    → Says (meaning_read syntax tail read n) reading → IfPath reading (λ path at. (at ≡ n) × BeginsRelative path)
says-read syntax tail (Err why) n NotRelative says = tt
says-read syntax tail (Err why) n (Unknown other) says = tt
says-read syntax tail (Err why) n (Path path at) says = absurd (cc)
says-read syntax tail (Ok text) n reading says = says-url (trim_url syntax tail text) n reading says

pub says-tail : (syntax : TargetSyntax) (target : List ℕ) (reading : TargetReading) → HasTail syntax target
    → Says (meaning syntax target) reading → IfPath reading (λ _ at. IsTailAt syntax target at)
says-tail syntax target reading (within, tail) says =
    of reading
    (says-read syntax (has_tail target (total_size (path_pieces syntax target))) (bytes_of_pieces (path_pieces syntax target))
    (total_size (path_pieces syntax target)) reading says) where
      of : (reading : TargetReading)
          → IfPath reading (λ path at. (at ≡ total_size (path_pieces syntax target)) × BeginsRelative path)
          → IfPath reading (λ _ at. IsTailAt syntax target at)
      of NotRelative told = tt
      of (Unknown why) told = tt
      of (Path path at) (same, relative) =
          subst (IsTailAt syntax target) (sym same)
          (record { boundary = IsTail-boundary syntax target (total_size (path_pieces syntax target)) within tail; tail = tail })

pub says-relative : (syntax : TargetSyntax) (target : List ℕ) (reading : TargetReading)
    → Says (meaning syntax target) reading → IfPath reading (λ path _. BeginsRelative path)
says-relative syntax target reading says =
    of reading
    (says-read syntax (has_tail target (total_size (path_pieces syntax target))) (bytes_of_pieces (path_pieces syntax target))
    (total_size (path_pieces syntax target)) reading says) where
      of : (reading : TargetReading)
          → IfPath reading (λ path at. (at ≡ total_size (path_pieces syntax target)) × BeginsRelative path)
          → IfPath reading (λ path _. BeginsRelative path)
      of NotRelative told = tt
      of (Unknown why) told = tt
      of (Path path at) (same, relative) = relative
