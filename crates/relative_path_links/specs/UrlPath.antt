-- Pages and their URL paths, and how RFC 3986, section 5.2, resolves a reference that is a path without a slash at its
-- start.
use Rattle.std.specs.Prelude.{◌≡◌, ℕ, ◌-◌, Bool, false, List, [], ◌∷◌, ◌++◌, map, length, take, drop, get_or, Some, Result, Ok, if◌then◌else◌}
use Rattle.std.specs.List.{slice_split, list_any}
use Rattle.relative_path.specs.Steps.{Step, cur, up, name, slash, is_slash, classed}
use Rattle.relative_path.specs.RelativePath.{path_text, path_components}
use Rattle.relative_path.specs.declared.path.RelativePath.{RelativePath}
use Rattle.relative_path.specs.Walk.{place_of}
use Rattle.target_paths.specs.Pieces.{bytes_of_pieces, read_pieces}
use Rattle.target_paths.specs.Url.{url_piece}
use Rattle.target_paths.specs.Writing.{is_nul}
use Rattle.target_paths.specs.declared.target.WhyUnknown.{WhyUnknown}

-- a page: the components of its path, and whether it is a directory's page
pub record Page : Type 0 where
  pub path : List Step
  pub is_directory : Bool

-- the text ends in a slash
abbrev pub ends_in_slash : List ℕ → Bool
ends_in_slash text = is_slash (get_or text (length text - 1) 0)

-- the page with this path: a directory's page if the path ends in a slash
abbrev pub page_of : RelativePath → Page
page_of path = record { path = path_components path; is_directory = ends_in_slash (path_text path) }

-- the steps to the end of the page's URL path: those of its path, and for a directory's page, whose URL path ends in a
-- slash, the empty segment after that slash
abbrev pub url_steps : Page → List Step
url_steps page = if page.is_directory then page.path ++ name [] ∷ [] else page.path

-- the URL path of some segments: each of them after a slash
abbrev pub url_path : List (List ℕ) → List ℕ
url_path [] = []
url_path (segment ∷ segments) = slash ∷ segment ++ url_path segments

-- the segments of a URL path: what its slashes cut after the first slash, the empty ones too
abbrev pub segments_of : List ℕ → List (List ℕ)
segments_of path = drop 1 (slice_split is_slash path)

-- the list without its last segment, if it has one
abbrev pub without_last : List (List ℕ) → List (List ℕ)
without_last segments = take (length segments - 1) segments

-- the merged segments (5.2.3): those of the base but the last, then the reference's
abbrev pub merged : List ℕ → List ℕ → List (List ℕ)
merged base reference = without_last (segments_of base) ++ slice_split is_slash reference

-- what is left without dot segments (5.2.4): `.` goes, and `..` goes with the segment before it; where one of them is
-- the last segment, an empty one is left in its place
abbrev pub without_dots : List (List ℕ) → List Step → List (List ℕ)
without_dots before [] = before
without_dots before (cur ∷ []) = before ++ [] ∷ []
without_dots before (cur ∷ c ∷ cs) = without_dots before (c ∷ cs)
without_dots before (up ∷ []) = without_last before ++ [] ∷ []
without_dots before (up ∷ c ∷ cs) = without_dots (without_last before) (c ∷ cs)
without_dots before (name segment ∷ cs) = without_dots (before ++ segment ∷ []) cs

-- the URL path to which a reference resolves from a base
abbrev pub resolved : List ℕ → List ℕ → List ℕ
resolved base reference = url_path (without_dots [] (map classed (merged base reference)))

-- what a segment's percent signs are decoded to, once, or why it isn't known
abbrev pub decoded : List ℕ → Result (List ℕ) WhyUnknown
decoded segment = bytes_of_pieces (read_pieces url_piece 0 segment)

-- the URL path has these segments, after it is cut at its slashes and each segment is decoded
abbrev pub HasSegments : List ℕ → List (List ℕ) → Type 0
HasSegments path segments = map decoded (segments_of path) ≡ map Ok segments

-- where both pages have a place from the top, and no name of the second page's place has a NUL, the reference resolves
-- from each URL path of the first page, however it is encoded, to a URL path of the second
abbrev pub Resolves : Page → Page → List ℕ → Type 0
Resolves from to reference = (base target : List (List ℕ)) → place_of (url_steps from) ≡ Some base
    → place_of (url_steps to) ≡ Some target → list_any (list_any is_nul) target ≡ false
    → (path : List ℕ) → HasSegments path base → HasSegments (resolved path reference) target
