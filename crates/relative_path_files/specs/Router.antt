-- What a router resolves a request to, and why it refuses a request.
use Rattle.std.specs.Prelude.{◌≡◌, ℕ, ◌-◌, Bool, true, false, not, ◌||◌, List, [], ◌∷◌, ◌++◌, map, length, get_or, codes, Some, None, ⊤}
use Rattle.std.specs.List.{All}
use Rattle.relative_path.specs.Steps.{Step, cur, up, name, spell, is_slash, components}
use Rattle.relative_path.specs.Editing.{with_separator, pushed}
use Rattle.relative_path.specs.Walk.{place_of}
use Rattle.relative_path_files.specs.Names.{IsPlainName}
use Rattle.relative_path_files.specs.declared.router.RequestError.{RequestError}
use Rattle.relative_path_files.specs.declared.router.RequestError.TheVariants.{ClimbsAbove, NotPlain, OutOfMemory}

-- the root as it is, with the names after it, single slashes between
abbrev pub below : List ℕ → List (List ℕ) → List ℕ
below root [] = root
below root (n ∷ ns) = with_separator root ++ spell (map name (n ∷ ns))

-- the root with a path pushed onto it, unless the path is empty
abbrev pub added : List ℕ → List ℕ → List ℕ
added root [] = root
added root (b ∷ bs) = pushed root (b ∷ bs)

-- the path is the root as it is, and then the names of the place where the request leads from the top
pub record IsBelowRoot (root : List ℕ) (request : List Step) (path : List ℕ) : Type 0 where
  pub place : List (List ℕ)
  pub named : place_of request ≡ Some place
  pub text : path ≡ below root place

-- the names of the place where the request leads from the top are plain
abbrev pub HasPlainPlace : List Step → Type 0
HasPlainPlace request = (place : List (List ℕ)) → place_of request ≡ Some place → All IsPlainName place

-- the component is a name
abbrev pub is_name : Step → Bool
is_name cur = false
is_name up = false
is_name (name n) = true

-- the list ends in a name
abbrev pub ends_in_name : List Step → Bool
ends_in_name cs = is_name (get_or cs (length cs - 1) cur)

-- the request ends in a slash, or it doesn't end in a name
abbrev pub means_directory : List ℕ → Bool
means_directory text = is_slash (get_or text (length text - 1) 0) || not (ends_in_name (components text))

-- in which case a request has this error
abbrev pub IsRequestRefused : List Step → RequestError → Type 0
IsRequestRefused request ClimbsAbove = place_of request ≡ None
IsRequestRefused request NotPlain = (place : List (List ℕ)) × (place_of request ≡ Some place) × (¬ All IsPlainName place)
IsRequestRefused request OutOfMemory = ⊤

-- in which case a request has this error on Unix alone
abbrev pub IsRequestRefusedOnUnix : List Step → RequestError → Type 0
IsRequestRefusedOnUnix request ClimbsAbove = place_of request ≡ None
IsRequestRefusedOnUnix request NotPlain = ⊥
IsRequestRefusedOnUnix request OutOfMemory = ⊤

-- what an error prints
abbrev pub request_error_text : RequestError → List ℕ
request_error_text ClimbsAbove = codes "the request climbs above the top"
request_error_text NotPlain = codes "the request has a name that isn't plain"
request_error_text OutOfMemory = codes "out of memory"
