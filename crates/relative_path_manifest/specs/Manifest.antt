-- A manifest in JSON, the files that it names, and why a manifest isn't accepted.
use Rattle.std.specs.Prelude.{◌≡◌, ◌≢◌, ◌<◌, ℕ, List, [], ◌∷◌, ◌++◌, length, take, codes, decimal, Option, Some, None, slice_index_or, option_and_then, ⊤}
use Rattle.std.specs.List.{All, AllZip}
use Rattle.std.specs.Option.{option_map}
use Rattle.serde_json.specs.Data.{Data, null, Items, no_items, item}
use Rattle.serde_json.specs.Find.{get, at, as_str, as_array}
use Rattle.relative_path.specs.Steps.{Step, components}
use Rattle.relative_path.specs.Walk.{LeadsBelow, place_of}
use Rattle.relative_path.specs.Normalizing.{IsNormalTextOf}
use Rattle.relative_path.specs.RelativePathBuf.{Buffer}
use Rattle.relative_path_files.specs.Names.{IfName, IsPlainName}
use Rattle.relative_path_manifest.specs.declared.manifest.NameRule.{NameRule}
use Rattle.relative_path_manifest.specs.declared.manifest.NameRule.TheVariants.{Plain, Any}
use Rattle.relative_path_manifest.specs.declared.manifest.ManifestError.{ManifestError}
use Rattle.relative_path_manifest.specs.declared.manifest.ManifestError.TheVariants.{NoBase, NoFiles, NotAString, ClimbsAbove, LeadsToBase, NotPlain, BaseNotPlain, OutOfMemory}

-- the text of the member `base`, if it is a string
abbrev pub base_member : Data → Option (List ℕ)
base_member manifest = option_and_then as_str (get (codes "base") manifest)

-- the items of a list
abbrev pub item_list : Items → List Data
item_list no_items = []
item_list (item d ds) = d ∷ item_list ds

-- the items of the member `files`, if it is a list
abbrev pub entries_of : Data → Option (List Data)
entries_of manifest = option_map item_list (option_and_then as_array (get (codes "files") manifest))

-- every name is accepted
abbrev pub IsAnyName : List ℕ → Type 0
IsAnyName n = ⊤

-- the entry is a path with a place from the top, of one name at least, each of them accepted; the file is the normal text
-- of where `base` and the entry lead in turn, and that is this place below the directory that `base` names
pub record IsFileOf (Accepted : List ℕ → Type 0) (base : List Step) (entry : Data) (file : List ℕ) : Type 0 where
  pub path : List ℕ
  pub place : List (List ℕ)
  pub string : as_str entry ≡ Some path
  pub named : place_of (components path) ≡ Some place
  pub not_base : place ≢ []
  pub accepted : All Accepted place
  pub normal : IsNormalTextOf (base ++ components path) file
  pub below : LeadsBelow base place (components file)

-- the entry isn't a string
abbrev pub IsNoString : Data → Type 0
IsNoString entry = as_str entry ≡ None

-- the entry is a path that climbs above where it starts
abbrev pub Climbs : Data → Type 0
Climbs entry = (path : List ℕ) × (as_str entry ≡ Some path) × (place_of (components path) ≡ None)

-- the entry is a path that leads to where it starts
abbrev pub LeadsToStart : Data → Type 0
LeadsToStart entry = (path : List ℕ) × (as_str entry ≡ Some path) × (place_of (components path) ≡ Some [])

-- the entry is a path whose place has a name that isn't accepted
abbrev pub HasOtherName : (List ℕ → Type 0) → Data → Type 0
HasOtherName Accepted entry = (path : List ℕ) × (place : List (List ℕ)) × (as_str entry ≡ Some path)
    × (place_of (components path) ≡ Some place) × (¬ All Accepted place)

-- a component of the base is a name that isn't accepted
abbrev pub HasOtherBase : (List ℕ → Type 0) → List Step → List Data → Type 0
HasOtherBase Accepted base entries = ¬ All (IfName Accepted) base

-- entry number k is in this case, and each before it has its file
pub record IsFirstRefused (Accepted : List ℕ → Type 0) (Case : Data → Type 0) (base : List Step) (entries : List Data)
    (k : ℕ) : Type 0 where
  pub within : k < length entries
  pub case : Case (slice_index_or entries k null)
  pub before : (files : List (List ℕ)) × AllZip (IsFileOf Accepted base) (take k entries) files

-- P holds of the components of the manifest's member `base`, and of its entries
abbrev pub OfManifest : Data → (List Step → List Data → Type 0) → Type 0
OfManifest manifest P = (base : List ℕ) × (entries : List Data)
    × (base_member manifest ≡ Some base) × (entries_of manifest ≡ Some entries) × P (components base) entries

-- these are the files of the entries, in order
abbrev pub AreFiles : (List ℕ → Type 0) → List (List ℕ) → List Step → List Data → Type 0
AreFiles Accepted files base entries = AllZip (IsFileOf Accepted base) entries files

-- in which case the entries have this error; a failed allocation says nothing of the entries
abbrev pub IsRefusedFor : (List ℕ → Type 0) → ManifestError → List Step → List Data → Type 0
IsRefusedFor Accepted NoBase base entries = ⊥
IsRefusedFor Accepted NoFiles base entries = ⊥
IsRefusedFor Accepted (NotAString k) base entries = IsFirstRefused Accepted IsNoString base entries k
IsRefusedFor Accepted (ClimbsAbove k) base entries = IsFirstRefused Accepted Climbs base entries k
IsRefusedFor Accepted (LeadsToBase k) base entries = IsFirstRefused Accepted LeadsToStart base entries k
IsRefusedFor Accepted (NotPlain k) base entries = IsFirstRefused Accepted (HasOtherName Accepted) base entries k
IsRefusedFor Accepted BaseNotPlain base entries = ⊥
IsRefusedFor Accepted OutOfMemory base entries = ⊤

-- in which case a manifest has this error
abbrev pub IsRefusedManifest : (List ℕ → Type 0) → Data → ManifestError → Type 0
IsRefusedManifest Accepted manifest NoBase = base_member manifest ≡ None
IsRefusedManifest Accepted manifest NoFiles = (base_member manifest ≢ None) × (entries_of manifest ≡ None)
IsRefusedManifest Accepted manifest (NotAString k) = OfManifest manifest (IsRefusedFor Accepted (NotAString k))
IsRefusedManifest Accepted manifest (ClimbsAbove k) = OfManifest manifest (IsRefusedFor Accepted (ClimbsAbove k))
IsRefusedManifest Accepted manifest (LeadsToBase k) = OfManifest manifest (IsRefusedFor Accepted (LeadsToBase k))
IsRefusedManifest Accepted manifest (NotPlain k) = OfManifest manifest (IsRefusedFor Accepted (NotPlain k))
IsRefusedManifest Accepted manifest BaseNotPlain = OfManifest manifest (HasOtherBase Accepted)
IsRefusedManifest Accepted manifest OutOfMemory = ⊤

-- in which case the entry with this number has this error
abbrev pub IsEntryRefused : (List ℕ → Type 0) → Data → ℕ → ManifestError → Type 0
IsEntryRefused Accepted entry k NoBase = ⊥
IsEntryRefused Accepted entry k NoFiles = ⊥
IsEntryRefused Accepted entry k (NotAString j) = (j ≡ k) × IsNoString entry
IsEntryRefused Accepted entry k (ClimbsAbove j) = (j ≡ k) × Climbs entry
IsEntryRefused Accepted entry k (LeadsToBase j) = (j ≡ k) × LeadsToStart entry
IsEntryRefused Accepted entry k (NotPlain j) = (j ≡ k) × HasOtherName Accepted entry
IsEntryRefused Accepted entry k BaseNotPlain = ⊥
IsEntryRefused Accepted entry k OutOfMemory = ⊤

-- the names that a reader with this rule accepts
abbrev pub accepted : NameRule → List ℕ → Type 0
accepted Plain = IsPlainName
accepted Any = IsAnyName

-- the number of the entry that an error is about
abbrev pub entry_of : ManifestError → Option ℕ
entry_of NoBase = None
entry_of NoFiles = None
entry_of (NotAString k) = Some k
entry_of (ClimbsAbove k) = Some k
entry_of (LeadsToBase k) = Some k
entry_of (NotPlain k) = Some k
entry_of BaseNotPlain = None
entry_of OutOfMemory = None

-- the text of item number k of the member `files`, if it is a string
abbrev pub entry_text : Data → ℕ → Option (List ℕ)
entry_text manifest k = option_and_then as_str (option_and_then (at k) (get (codes "files") manifest))

-- the text of a file
abbrev pub file_text : Buffer → List ℕ
file_text file = file.text

-- what an error prints
abbrev pub manifest_error_text : ManifestError → List ℕ
manifest_error_text NoBase = codes "no base directory"
manifest_error_text NoFiles = codes "no list of files"
manifest_error_text (NotAString k) = codes "files[" ++ decimal k ++ codes "] isn't a string"
manifest_error_text (ClimbsAbove k) = codes "files[" ++ decimal k ++ codes "] climbs above the base"
manifest_error_text (LeadsToBase k) = codes "files[" ++ decimal k ++ codes "] leads to the base"
manifest_error_text (NotPlain k) = codes "files[" ++ decimal k ++ codes "] has a name that isn't plain"
manifest_error_text BaseNotPlain = codes "the base has a name that isn't plain"
manifest_error_text OutOfMemory = codes "out of memory"
