-- What an action does to a tree, and what a run of actions leads to.
use Rattle.std.specs.Prelude.{◌≡◌, ◌⊎◌, ℕ, List, [], ◌∷◌, Some, None, IsSome}
use Rattle.relmove_trees.specs.FileTrees.{CanTake, Directory, File, HasBelow, IsUnder, Place, Tree, after_rename, with_node}

-- a new file, a rename, a new directory, a file removed, a directory removed if nothing is in it
pub data Action : Type 0 where
  Write : (place : Place) → (bytes : List ℕ) → Action
  Rename : (from to : Place) → Action
  Make : (place : Place) → Action
  Remove : (place : Place) → Action
  Clear : (place : Place) → Action

-- something is at the old place, and the new one, which isn't at the old one or below, can take it
pub record CanRename (tree : Tree) (rename : Place × Place) : Type 0 where
  pub there : IsSome (tree rename.0)
  pub takes : CanTake tree rename.1
  pub apart : ¬ IsUnder rename.1 rename.0

-- the system can do the action
abbrev pub CanAct : Action → Tree → Type 0
CanAct (Write place bytes) tree = CanTake tree place
CanAct (Rename from to) tree = CanRename tree (from, to)
CanAct (Make place) tree = CanTake tree place
CanAct (Remove place) tree = (bytes : List ℕ) × (tree place ≡ Some (File bytes))
CanAct (Clear place) tree = tree place ≡ Some Directory

-- the action makes the new tree of the old one
abbrev pub Acts : Action → Tree → Tree → Type 0
Acts (Write place bytes) old new = new ≡ with_node place (Some (File bytes)) old
Acts (Rename from to) old new = new ≡ after_rename (from, to) old
Acts (Make place) old new = new ≡ with_node place (Some Directory) old
Acts (Remove place) old new = new ≡ with_node place None old
Acts (Clear place) old new =
    ((¬ HasBelow old place) × (new ≡ with_node place None old)) ⊎ HasBelow old place × (new ≡ old)

-- whoever does the actions, one after another, can do each, and comes to a tree of which P holds
abbrev pub LeadTo : List Action → (Tree → Type 0) → Tree → Type 0
LeadTo [] P tree = P tree
LeadTo (action ∷ actions) P tree = CanAct action tree × ((next : Tree) → Acts action tree next → LeadTo actions P next)
