-- The first of some paths that leads to a place, and the paths that an index has.
use Rattle.std.specs.Prelude.{◌≡◌, ◌<◌, ℕ, List, [], length, Option, Some, MatchOption, slice_index_or}
use Rattle.std.specs.BTreeMap.{get_by_text}
use Rattle.relative_path.specs.Steps.{Step}
use Rattle.relative_path.specs.Walk.{IsSame}
use Rattle.relative_path.specs.Normalizing.{IsNormalTextOf}
use Rattle.relative_path_places.specs.declared.place_index.PlaceIndex.{PlaceIndex}

-- the components of path number k, counted from 0
abbrev pub path_at : List (List Step) → ℕ → List Step
path_at paths k = slice_index_or paths k []

-- k is the number of the first of the paths that leads, from every base, to where the components lead
pub record IsFirstAt (paths : List (List Step)) (cs : List Step) (k : ℕ) : Type 0 where
  pub within : k < length paths
  pub same : IsSame cs (path_at paths k)
  pub first : (j : ℕ) → j < k → ¬ IsSame cs (path_at paths j)

-- none of the paths leads there
abbrev pub IsNoneAt : List (List Step) → List Step → Type 0
IsNoneAt paths cs = (k : ℕ) → k < length paths → ¬ IsSame cs (path_at paths k)

-- found is the number of the first of the paths that leads there, or `None` if no path does
abbrev pub IsFoundAt : List (List Step) → List Step → Option ℕ → Type 0
IsFoundAt paths cs found = MatchOption found (IsNoneAt paths cs) (IsFirstAt paths cs)

-- the index has these paths: each of its numbers is the number of one of them, and under a normal text it has the number
-- of the first path that leads where the text leads
pub record Indexes (paths : List (List Step)) (index : PlaceIndex) : Type 0 where
  pub within : (text : List ℕ) (k : ℕ) → get_by_text index.by_text text ≡ Some k → k < length paths
  pub found : (cs : List Step) (text : List ℕ) → IsNormalTextOf cs text
      → IsFoundAt paths cs (get_by_text index.by_text text)
