-- The staging names, to which things are renamed before they come to their new paths, and the names of new files.
use Rattle.std.specs.Prelude.{◌≡◌, ◌≢◌, ◌<◌, ◌≤◌, ℕ, List, [], ◌∷◌, ◌++◌, IsSome, All, AllPairs, codes}
use Rattle.relative_path.specs.Steps.{Step, name, components, spell}
use Rattle.relative_path.specs.Normalizing.{IsNormalTextOf}
use Rattle.relative_path_places.specs.PlaceIndex.{Indexes, IsNoneAt}
use Rattle.relative_path_places.specs.IndexEntries.{number_at}
use Rattle.relative_path_places.specs.declared.place_index.PlaceIndex.{PlaceIndex}
use Rattle.relmove_steps.specs.declared.staging.FreeNames.{FreeNames}
use Rattle.relmove_steps.specs.Numbers.{numeral}

-- the name with this number
abbrev pub numbered_name : ℕ → List ℕ
numbered_name n = codes ".relmove-" ++ numeral n

-- the name has a number up to this one
pub record IsNumbered (last : ℕ) (name : List ℕ) : Type 0 where
  pub number : ℕ
  pub within : number ≤ last
  pub name_is : name ≡ numbered_name number

-- the names have numbers, no two of them are equal, and none of the paths leads to where one of them leads
pub record AreFreeNames (paths : List (List Step)) (names : List (List ℕ)) : Type 0 where
  pub numbered : All (λ name. (n : ℕ) × (name ≡ numbered_name n)) names
  pub different : AllPairs (λ one other. one ≢ other) names
  pub unused : All (λ name. IsNoneAt paths (components name)) names

-- the names were drawn from these free names, which are over this index; so they are free
pub record AreDrawn (index : PlaceIndex) (free : FreeNames) (names : List (List ℕ)) : Type 0 where
  pub entries : free.entries.now ≡ index
  pub numbered : All (IsNumbered free.last) names
  pub fresh : (paths : List (List Step)) → Indexes paths index → AreFreeNames paths names

-- this name was drawn from the free names before, and no entry has it; these are the free names after
pub record IsDrawn (before after : FreeNames) (name : List ℕ) : Type 0 where
  pub number : ℕ
  pub late : before.last < number
  pub entries : after.entries ≡ before.entries
  pub last : after.last ≡ number
  pub name_is : name ≡ numbered_name number
  pub unused : (paths : List (List Step)) → Indexes paths before.entries.now → IsNoneAt paths (components name)

-- the file's name was drawn from the free names before, the file is in the directory to which the components lead, and no
-- entry is at it; these are the free names after
pub record IsDrawnIn (cs : List Step) (before after : FreeNames) (file : List ℕ) : Type 0 where
  pub number : ℕ
  pub late : before.last < number
  pub entries : after.entries ≡ before.entries
  pub last : after.last ≡ number
  pub file_of : IsNormalTextOf (cs ++ components (numbered_name number)) file
  pub unused : (paths : List (List Step)) → Indexes paths before.entries.now → IsNoneAt paths (components file)

-- ---- while a name is looked for

-- the text of the file with this number in the directory to which the components lead
abbrev pub numbered_file : List Step → ℕ → List ℕ
numbered_file cs n = spell (cs ++ name (numbered_name n) ∷ [])

-- the index has each such file with a number after the first one, up to the last one
abbrev pub AreTaken : PlaceIndex → List Step → ℕ → ℕ → Type 0
AreTaken index cs first last = (n : ℕ) → first < n → n ≤ last → IsSome (number_at index (numbered_file cs n))
