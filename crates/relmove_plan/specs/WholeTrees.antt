-- Entries that are whole: each directory above an entry is an entry too.
use Rattle.std.specs.Prelude.{◌≡◌, ◌⊎◌, ℕ, Bool, true, false, List, [], ◌∷◌, ◌++◌, Some}
use Rattle.std.specs.List.{All, Any}
use Rattle.relative_path.specs.Steps.{Step, components}
use Rattle.relative_path.specs.Walk.{place_of}
use Rattle.relmove_checks.specs.declared.entry.Entry.{Entry}
use Rattle.relmove_checks.specs.Trees.{AreDistinct, entry_paths, is_directory}

-- the entry is at the place; it is a directory, or it is none
pub record IsAt (directory : Bool) (place : List (List ℕ)) (entry : Entry) : Type 0 where
  pub kind : is_directory entry.kind ≡ directory
  pub leads : place_of (components entry.path) ≡ Some place

-- an entry at the place is a directory
abbrev pub HasDirectoryAt : List Entry → List (List ℕ) → Type 0
HasDirectoryAt entries place = Any (IsAt true place) entries

-- the entry is directly in the root, or in a directory that is an entry
pub record IsHeld (entries : List Entry) (entry : Entry) : Type 0 where
  pub directory : List (List ℕ)
  pub name : List ℕ
  pub leads : place_of (components entry.path) ≡ Some (directory ++ name ∷ [])
  pub held : (directory ≡ []) ⊎ HasDirectoryAt entries directory

-- the components lead to an entry that isn't a directory
pub record LeadsToFile (entries : List Entry) (cs : List Step) : Type 0 where
  pub place : List (List ℕ)
  pub leads : place_of cs ≡ Some place
  pub file : Any (IsAt false place) entries

-- each entry is held, and no two are at one place; at each page is an entry that is no directory, and no two pages are at
-- one place
pub record IsWhole (entries : List Entry) (pages : List (List Step)) : Type 0 where
  pub held : All (IsHeld entries) entries
  pub distinct : AreDistinct (entry_paths entries)
  pub files : All (LeadsToFile entries) pages
  pub pages_distinct : AreDistinct pages
