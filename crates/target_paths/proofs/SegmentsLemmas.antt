-- The segments of what is written for a path.
use Rattle.std.proofs.Common.{◌≡◌, ℕ, ◌/◌, ◌%◌, Bool, true, false, if◌then◌else◌, List, [], ◌∷◌, ◌++◌, map, codes, Ok, Err, refl, sym, ap, ◌∙◌, subst, arith, eqb-true, append-nil}
use Rattle.std.specs.List.{slice_split, list_any, onto_first, AllByRecursion, AllZip}
use Rattle.std.proofs.lemmas.Bool.Decides.{nat_tests}
use Rattle.std.proofs.lemmas.List.Splits.{slice_split-cons_no}
use Rattle.target_paths.specs.declared.path_position.PathPosition.{PathPosition}
use Rattle.target_paths.specs.declared.path_position.PathPosition.TheVariants.{Start, Mark, FirstSegment, AfterSlash}
use Rattle.target_paths.specs.declared.target.WhyUnknown.TheVariants.{EncodedNul}
use Rattle.target_paths.specs.Pieces.{read_pieces, bytes_of_pieces}
use Rattle.target_paths.specs.Url.{slash, is_slash, url_piece}
use Rattle.target_paths.specs.Writing.{is_escaped, first_position, next_position, hexadecimal, written_byte, spelling_from, path_written, target_of, is_nul}
use Rattle.target_paths.proofs.RoundTripLemmas.{by_escape, spelling_from-decoding}

-- ---- where slashes cut

-- the bytes before the first of some texts
abbrev onto : List ℕ → List (List ℕ) → List (List ℕ)
onto bs [] = bs ∷ []
onto bs (text ∷ texts) = (bs ++ text) ∷ texts

onto_first-onto : (b : ℕ) (bs : List ℕ) (texts : List (List ℕ)) → onto_first b (onto bs texts) ≡ onto (b ∷ bs) texts
onto_first-onto b bs [] = refl
onto_first-onto b bs (text ∷ texts) = refl

onto_first-none : (b : ℕ) (texts : List (List ℕ)) → onto_first b texts ≡ onto [] (onto_first b texts)
onto_first-none b [] = refl
onto_first-none b (text ∷ texts) = refl

slice_split-none : (rest : List ℕ) → slice_split is_slash rest ≡ onto [] (slice_split is_slash rest)
slice_split-none [] = refl
slice_split-none (b ∷ bs) =
    let texts = slice_split is_slash bs in
    by_escape
    (λ t. (if t then [] ∷ texts else onto_first b texts) ≡ onto [] (if t then [] ∷ texts else onto_first b texts))
    (is_slash b) (λ _. refl) (λ _. onto_first-none b texts)

-- bytes without a slash belong to the first segment of what comes after them
slice_split-no_slash : (bs rest : List ℕ) → AllByRecursion (λ b. is_slash b ≡ false) bs
    → slice_split is_slash (bs ++ rest) ≡ onto bs (slice_split is_slash rest)
slice_split-no_slash [] rest none = slice_split-none rest
slice_split-no_slash (b ∷ bs) rest (first, others) =
    slice_split-cons_no is_slash b (bs ++ rest) first
    ∙ ap (onto_first b) (slice_split-no_slash bs rest others)
    ∙ onto_first-onto b bs (slice_split is_slash rest)

hexadecimal-no_slash : (d : ℕ) → is_slash (hexadecimal d) ≡ false
hexadecimal-no_slash d = grind (arith, nat_tests)

written_byte-no_slash : (escaped : Bool) (b : ℕ) → is_slash b ≡ false
    → AllByRecursion (λ b. is_slash b ≡ false) (written_byte escaped b)
written_byte-no_slash true b none = (refl, (hexadecimal-no_slash (b / 16), (hexadecimal-no_slash (b % 16), tt)))
written_byte-no_slash false b none = (none, tt)

-- ---- what is written for segments

-- what is written for the segments of a path's bytes from this position on
abbrev segments_written : PathPosition → List (List ℕ) → List (List ℕ)
segments_written position [] = []
segments_written position (n ∷ ns) = spelling_from position n ∷ map (spelling_from AfterSlash) ns

segments_written-after : (ns : List (List ℕ)) → segments_written AfterSlash ns ≡ map (spelling_from AfterSlash) ns
segments_written-after [] = refl
segments_written-after (n ∷ ns) = refl

segments_written-byte : (position : PathPosition) (b : ℕ) (ns : List (List ℕ))
    → onto (written_byte (is_escaped position b) b) (segments_written (next_position position b) ns)
    ≡ segments_written position (onto_first b ns)
segments_written-byte position b [] = ap (λ text. text ∷ []) (sym (append-nil (written_byte (is_escaped position b) b)))
segments_written-byte position b (n ∷ ns) = refl

-- a slash is written as it is
spelling_from-slash : (position : PathPosition) (rest : List ℕ)
    → spelling_from position (slash ∷ rest) ≡ slash ∷ spelling_from AfterSlash rest
spelling_from-slash Start rest = refl
spelling_from-slash Mark rest = refl
spelling_from-slash FirstSegment rest = refl
spelling_from-slash AfterSlash rest = refl

slice_split-spelling_from : (position : PathPosition) (bs : List ℕ)
    → slice_split is_slash (spelling_from position bs) ≡ segments_written position (slice_split is_slash bs)
slice_split-spelling_from position [] = refl
slice_split-spelling_from position (b ∷ bs) =
    by_escape
    (λ t. is_slash b ≡ t
    → slice_split is_slash (spelling_from position (b ∷ bs)) ≡ segments_written position (slice_split is_slash (b ∷ bs)))
    (is_slash b)
    (λ slashed is.
    let same : b ≡ slash = eqb-true b slash is in
    subst (λ c. slice_split is_slash (spelling_from position (c ∷ bs)) ≡ segments_written position (slice_split is_slash (c ∷ bs)))
    (sym same)
    (ap (slice_split is_slash) (spelling_from-slash position bs)
    ∙ ap (λ texts. [] ∷ texts) (slice_split-spelling_from AfterSlash bs ∙ segments_written-after (slice_split is_slash bs))))
    (λ kept is.
    slice_split-no_slash (written_byte (is_escaped position b) b) (spelling_from (next_position position b) bs)
    (written_byte-no_slash (is_escaped position b) b is)
    ∙ ap (onto (written_byte (is_escaped position b) b)) (slice_split-spelling_from (next_position position b) bs)
    ∙ segments_written-byte position b (slice_split is_slash bs)
    ∙ ap (segments_written position) (sym (slice_split-cons_no is_slash b bs is)))
    refl

-- ---- what they are read as

-- the text is decoded to the segment, unless that has a NUL; and if the segment is a dot segment, the text is the segment
pub record IsWrittenAs (text segment : List ℕ) : Type 0 where
  pub decoded :
      bytes_of_pieces (read_pieces url_piece 0 text) ≡ (if list_any is_nul segment then Err EncodedNul else Ok segment)
  pub dot : segment ≡ codes "." → text ≡ codes "."
  pub dots : segment ≡ codes ".." → text ≡ codes ".."

spelling_from-dot : (position : PathPosition) → spelling_from position (codes ".") ≡ codes "."
spelling_from-dot Start = refl
spelling_from-dot Mark = refl
spelling_from-dot FirstSegment = refl
spelling_from-dot AfterSlash = refl

spelling_from-dots : (position : PathPosition) → spelling_from position (codes "..") ≡ codes ".."
spelling_from-dots Start = refl
spelling_from-dots Mark = refl
spelling_from-dots FirstSegment = refl
spelling_from-dots AfterSlash = refl

IsWrittenAs-spelling_from : (position : PathPosition) (n : List ℕ) → IsWrittenAs (spelling_from position n) n
IsWrittenAs-spelling_from position n = record {
  decoded = spelling_from-decoding position n;
  dot = λ is. ap (spelling_from position) is ∙ spelling_from-dot position;
  dots = λ is. ap (spelling_from position) is ∙ spelling_from-dots position;
}

AreWrittenAs-after : (ns : List (List ℕ)) → AllZip IsWrittenAs (map (spelling_from AfterSlash) ns) ns
AreWrittenAs-after [] = tt
AreWrittenAs-after (n ∷ ns) = (IsWrittenAs-spelling_from AfterSlash n, AreWrittenAs-after ns)

AreWrittenAs-segments : (position : PathPosition) (ns : List (List ℕ)) → AllZip IsWrittenAs (segments_written position ns) ns
AreWrittenAs-segments position [] = tt
AreWrittenAs-segments position (n ∷ ns) = (IsWrittenAs-spelling_from position n, AreWrittenAs-after ns)

pub target_of-segments : (path : List ℕ)
    → AllZip IsWrittenAs (slice_split is_slash (target_of path)) (slice_split is_slash (path_written path))
target_of-segments path =
    let start = first_position (path_written path) in
    subst (λ texts. AllZip IsWrittenAs texts (slice_split is_slash (path_written path)))
    (sym (slice_split-spelling_from start (path_written path)))
    (AreWrittenAs-segments start (slice_split is_slash (path_written path)))
