-- Theorems that proofs of other crates may cite: on lists of names, on normal lists and texts, and on the size of an index.
use Rattle.std.proofs.Common.{◌≡◌, ◌≢◌, ℕ, ◌<◌, ◌≤◌, List, ◌++◌, IsSome, map}
use Rattle.relative_path.specs.Steps.{Step, name, components}
use Rattle.relative_path.specs.Walk.{IsSame}
use Rattle.relative_path.specs.Normalizing.{AreNames, IsNormal, IsNormalText, IsNormalTextOf}
use Rattle.relative_path.proofs.ForCallers.{IsSame-refl}
use Rattle.relative_path_places.specs.Views.{view_text, view_components}
use Rattle.relative_path_places.specs.IndexEntries.{number_at, entry_count}
use Rattle.relative_path_places.specs.declared.place_index.PlaceIndex.{PlaceIndex}
use Rattle.relative_path_places.specs.declared.normal_view.NormalView.{NormalView}
use Rattle.relative_path_places.proofs.NormalPathLemmas as normal
use Rattle.relative_path_places.proofs.IndexEntriesLemmas as entries

-- a list of names is made from the names
pub AreNames-names : (cs : List Step) → AreNames cs → (ns : List (List ℕ)) × (cs ≡ map name ns)
AreNames-names = normal.AreNames-names

-- the end of a normal list is normal
pub IsNormal-end : (cs ds : List Step) → IsNormal (cs ++ ds) → IsNormal ds
IsNormal-end = normal.IsNormal-end

-- normal lists that lead to the same are equal
pub normal_unique : (cs ds : List Step) → IsNormal cs → IsNormal ds → IsSame cs ds → cs ≡ ds
normal_unique = normal.normal_unique

-- a normal text that leads where the components lead is their only normal text
pub IsNormalTextOf-same : (cs : List Step) (text : List ℕ) → IsNormalText text → IsSame cs (components text)
    → IsNormalTextOf cs text
IsNormalTextOf-same = normal.IsNormalTextOf-same

-- the text of a view of a normal path is normal
pub IsNormalText-view : (view : NormalView) → IsNormalText (view_text view)
IsNormalText-view view = record { spelled = view.spelled; normal = view.normal }

-- and is the normal text of its components
pub IsNormalTextOf-view : (view : NormalView) → IsNormalTextOf (view_components view) (view_text view)
IsNormalTextOf-view view =
    normal.IsNormalTextOf-same (view_components view) (view_text view) (IsNormalText-view view)
    (IsSame-refl (view_components view))

-- texts that differ, and that an index all has, are no more than its entries
pub le-entry_count : (index : PlaceIndex) (text : ℕ → List ℕ) (k : ℕ)
    → ((i j : ℕ) → i < j → j < k → text i ≢ text j) → ((i : ℕ) → i < k → IsSome (number_at index (text i)))
    → k ≤ entry_count index
le-entry_count = entries.le-entry_count
