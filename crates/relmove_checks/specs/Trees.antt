-- The entries of a tree, before the moves and after them.
use Rattle.std.specs.Prelude.{◌≡◌, ◌≢◌, ◌⊎◌, ◌<◌, ℕ, Bool, true, false, not, List, [], ◌++◌, IsPermutation, filter, map, length}
use Rattle.std.specs.List.{All, AllZip, Any}
use Rattle.std.specs.List.Sorted.{IsSorted}
use Rattle.std.specs.Ordering.{on}
use Rattle.relative_path.specs.Comparing.{steps_cmp}
use Rattle.relative_path.specs.declared.path.RelativePath.{RelativePath}
use Rattle.relative_path.specs.Steps.{Step, components}
use Rattle.relative_path.specs.Walk.{IsSame}
use Rattle.relative_path.specs.Normalizing.{IsNormalTextOf}
use Rattle.relative_path.specs.Prefixing.{StartsWith}
use Rattle.relative_path.specs.RelativePath.{path_components, path_text}
use Rattle.relative_path_moves.specs.Moves.{Move, AreApart}
use Rattle.relative_path_places.specs.PlaceIndex.{Indexes, IsFirstAt, IsNoneAt, path_at}
use Rattle.relative_path_moves.specs.TreeMoves.{AtTreePath}
use Rattle.relative_path_places.specs.declared.place_index.PlaceIndex.{PlaceIndex}
use Rattle.relmove_checks.specs.declared.entry.Entry.{Entry}
use Rattle.relmove_checks.specs.declared.entry.Kind.{Kind}
use Rattle.relmove_checks.specs.declared.entry.Kind.TheVariants.{File, Directory, Symlink}
use Rattle.relmove_checks.specs.declared.refused.Barrier.{Barrier}
use Rattle.relmove_checks.specs.declared.refused.Barrier.TheVariants.{Files, UnreadDirectories}

-- the components of the paths of the entries
abbrev pub entry_paths : List Entry → List (List Step)
entry_paths = map (λ entry. components entry.path)

-- an entry is where the components lead
abbrev pub IsThere : List Entry → List Step → Type 0
IsThere entries cs = (e : ℕ) × IsFirstAt (entry_paths entries) cs e

-- no entry is there
abbrev pub IsNotThere : List Entry → List Step → Type 0
IsNotThere entries cs = IsNoneAt (entry_paths entries) cs

-- the entry is a directory that holds a name that isn't UTF-8
abbrev pub holds_foreign_name : Kind → Bool
holds_foreign_name File = false
holds_foreign_name (Directory foreign read) = foreign
holds_foreign_name (Symlink path) = false

-- the entry is a directory
abbrev pub is_directory : Kind → Bool
is_directory File = false
is_directory (Directory foreign read) = true
is_directory (Symlink path) = false

-- the entry is a file or a symbolic link
abbrev pub is_file : Kind → Bool
is_file kind = not (is_directory kind)

-- the entry is a directory that isn't read
abbrev pub is_unread : Kind → Bool
is_unread File = false
is_unread (Directory foreign read) = not read
is_unread (Symlink path) = false

-- the entry is of the kind below which no new path may be
abbrev pub is_barrier : Barrier → Kind → Bool
is_barrier Files = is_file
is_barrier UnreadDirectories = is_unread

-- the entries that hold such a name
abbrev pub foreign_directories : List Entry → List Entry
foreign_directories = filter (λ entry. holds_foreign_name entry.kind)

-- the paths are those of these entries
abbrev pub AreForeignPaths : List Entry → List RelativePath → Type 0
AreForeignPaths entries paths =
    IsPermutation (map (λ (entry : Entry). entry.path) (foreign_directories entries)) (map path_text paths)

-- the paths are in the order of their components
abbrev pub AreInOrder : List RelativePath → Type 0
AreInOrder = IsSorted (on path_components steps_cmp)

-- the entry is at the components or below them, and holds a name that isn't UTF-8
pub record IsForeignBelow (cs : List Step) (entry : Entry) : Type 0 where
  pub foreign : holds_foreign_name entry.kind ≡ true
  pub below : StartsWith (components entry.path) cs

-- an entry at the components or below them holds a name that isn't UTF-8
abbrev pub HoldsForeignName : List Entry → List Step → Type 0
HoldsForeignName entries cs = Any (IsForeignBelow cs) entries

-- no such entry holds a name that isn't UTF-8
abbrev pub HoldsNoForeignName : List Entry → List Step → Type 0
HoldsNoForeignName entries cs = All (λ entry. ¬ IsForeignBelow cs entry) entries

-- the text is the normal text of where the entry is after the moves
abbrev pub IsAfter : List Move → Entry → List ℕ → Type 0
IsAfter moves entry text = AtTreePath moves (components entry.path) (λ target. IsNormalTextOf target text)

-- the texts are the normal paths of the entries after the moves
abbrev pub AreAfter : List Move → List Entry → List (List ℕ) → Type 0
AreAfter moves entries texts = AllZip (IsAfter moves) entries texts

-- an entry is at the components, and is there after the moves too
pub record IsTaken (moves : List Move) (entries : List Entry) (cs : List Step) : Type 0 where
  pub there : IsThere entries cs
  pub stays : AtTreePath moves cs (λ target. IsSame target cs)

-- no entry is at the components, or the one that is there moves away
abbrev pub IsFree : List Move → List Entry → List Step → Type 0
IsFree moves entries cs = IsNotThere entries cs ⊎ AtTreePath moves cs (λ target. ¬ IsSame target cs)

-- d is the number of the first path that leads where path number e leads, an earlier one; each path before e leads
-- elsewhere than those before it
pub record IsFirstCollision (paths : List (List Step)) (d e : ℕ) : Type 0 where
  pub earlier : d < e
  pub within : e < length paths
  pub same : IsFirstAt paths (path_at paths e) d
  pub first : (f : ℕ) → f < e → IsFirstAt paths (path_at paths f) f

-- no two of the paths lead to the same place
abbrev pub AreDistinct : List (List Step) → Type 0
AreDistinct paths = (e : ℕ) → e < length paths → IsFirstAt paths (path_at paths e) e

-- no two moves have the same old path, and the index has the paths of the entries after the moves, which all differ
pub record IndexesAfter (moves : List Move) (entries : List Entry) (index : PlaceIndex) : Type 0 where
  pub apart : AreApart moves
  pub after : List (List ℕ)
  pub are_after : AreAfter moves entries after
  pub distinct : AreDistinct (map components after)
  pub indexes : Indexes (map components after) index

-- the entry is of this kind, and after the moves it is where the components lead
pub record IsAtAfter (is_kind : Kind → Bool) (moves : List Move) (cs : List Step) (entry : Entry) : Type 0 where
  pub kind : is_kind entry.kind ≡ true
  pub there : AtTreePath moves (components entry.path) (λ target. IsSame target cs)

-- after the moves an entry of this kind is where the components lead
abbrev pub HasAt : (Kind → Bool) → List Move → List Entry → List Step → Type 0
HasAt is_kind moves entries cs = Any (IsAtAfter is_kind moves cs) entries

-- a front of the components, neither empty nor all of them, leads to where an entry of this kind is after the moves
pub record HasAbove (is_kind : Kind → Bool) (moves : List Move) (entries : List Entry) (cs : List Step) : Type 0 where
  pub front : List Step
  pub rest : List Step
  pub split : cs ≡ front ++ rest
  pub some_front : front ≢ []
  pub some_rest : rest ≢ []
  pub there : HasAt is_kind moves entries front

-- the path is below where an entry of this kind is after the moves
abbrev pub IsBelowSome : (Kind → Bool) → List Move → List Entry → List Step → Type 0
IsBelowSome is_kind moves entries cs =
    (normal : List ℕ) × IsNormalTextOf cs normal × HasAbove is_kind moves entries (components normal)

-- the path is below where no entry of this kind is after the moves
abbrev pub IsBelowNo : (Kind → Bool) → List Move → List Entry → List Step → Type 0
IsBelowNo is_kind moves entries cs =
    (normal : List ℕ) × IsNormalTextOf cs normal × (¬ HasAbove is_kind moves entries (components normal))

-- an entry is at the old path, and no entry at it or below it holds a name that isn't UTF-8
pub record IsOldFine (entries : List Entry) (old : List Step) : Type 0 where
  pub there : IsThere entries old
  pub normal : List ℕ
  pub normal_of : IsNormalTextOf old normal
  pub plain : HoldsNoForeignName entries (components normal)

-- an entry is at the old path, and one at it or below it holds a name that isn't UTF-8
pub record IsOldForeign (entries : List Entry) (old : List Step) : Type 0 where
  pub there : IsThere entries old
  pub normal : List ℕ
  pub normal_of : IsNormalTextOf old normal
  pub foreign : HoldsForeignName entries (components normal)
