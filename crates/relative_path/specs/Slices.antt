-- Prefixes and suffixes of a text, given by their components.
use Rattle.std.specs.Prelude.{◌≡◌, ◌≢◌, ℕ, ◌-◌, ◌≤◌, List, length, take, drop, slice_index}
use Rattle.relative_path.specs.Steps.{Step, slash, components}

-- p is the shortest prefix of the text whose components are cs
pub record IsShortestPrefix (text : List ℕ) (cs : List Step) (p : List ℕ) : Type 0 where
  pub prefix : p ≡ take (length p) text
  pub same_components : components p ≡ cs
  pub shortest : (k : ℕ) → components (take k text) ≡ cs → length p ≤ k

-- p is the shortest prefix of the text with exactly its first n components, or with all of them if there are fewer
abbrev pub IsCut : List ℕ → ℕ → List ℕ → Type 0
IsCut text n p = IsShortestPrefix text (take n (components text)) p

-- p is the shortest prefix of the text with all its components but the last; empty if the text has no components
abbrev pub IsFront : List ℕ → List ℕ → Type 0
IsFront text p = IsCut text (length (components text) - 1) p

-- r is the suffix of the text with all its components but the first, and begins with no slash; empty if the text has no
-- components
pub record IsRest (text r : List ℕ) : Type 0 where
  pub suffix : r ≡ drop (length text - length r) text
  pub no_leading_slash : slice_index r 0 ≢ slash
  pub other_components : components r ≡ drop 1 (components text)
