-- What the actions of a stage do to a tree, and when one is done already.
use Rattle.std.specs.Prelude.{◌≡◌, ◌⊎◌, ◌<◌, ℕ, List, [], ◌∷◌, Some, None, IsSome, length, string_bytes, String}
use Rattle.std.specs.declared.alloc.Global.{Global}
use Rattle.sha2.specs.Sha256.{sha256}
use Rattle.relmove_journal.specs.declared.text_digest.TextDigest.{TextDigest}
use Rattle.relmove_stages.specs.declared.action.Action.{Action}
use Rattle.relmove_stages.specs.declared.action.Action.TheVariants as actions
use Rattle.relmove_trees.specs.FileTrees.{CanTake, Directory, File, HasBelow, Place, Tree, names_of}
use Rattle.relmove_trees.specs.TreeActions as tree_actions
use Rattle.relmove_trees.specs.TreeActions.{Acts, CanRename}

-- a rename, a new directory, a directory removed if nothing is in it, a text removed that is whole, or that may be a part
pub data StageAction : Type 0 where
  Takes : (from to : Place) → StageAction
  Makes : (place : Place) → StageAction
  Clears : (place : Place) → StageAction
  Removes : (place : Place) (digest : TextDigest) → StageAction
  RemovesPart : (place : Place) (digest : TextDigest) → StageAction

-- the names of a path
abbrev pub place_of : String Global → Place
place_of path = names_of (string_bytes path)

-- what an action of the code does
abbrev pub action_of : Action → StageAction
action_of (actions.Carry rename) = Takes (place_of rename.now.from) (place_of rename.now.to)
action_of (actions.Unplace rename) = Takes (place_of rename.now.to) (place_of rename.now.from)
action_of (actions.Unstage rename) = Takes (place_of rename.now.to) (place_of rename.now.from)
action_of (actions.Make path) = Makes (names_of path.now)
action_of (actions.Unmake path) = Clears (names_of path.now)
action_of (actions.RemoveText text) = Removes (place_of text.now.path) text.now.digest
action_of (actions.RemovePart number text) = RemovesPart (place_of text.now.path) text.now.digest
action_of (actions.RemoveEmptied path) = Clears (names_of path.now)

-- the same as an action on a tree
abbrev pub tree_action : StageAction → tree_actions.Action
tree_action (Takes from to) = tree_actions.Rename from to
tree_action (Makes place) = tree_actions.Make place
tree_action (Clears place) = tree_actions.Clear place
tree_action (Removes place digest) = tree_actions.Remove place
tree_action (RemovesPart place digest) = tree_actions.Remove place

-- the bytes have the digest
abbrev pub IsText : TextDigest → List ℕ → Type 0
IsText digest bytes = (length bytes ≡ digest.length) × (sha256 bytes ≡ digest.sha256)

-- the text with the digest is at the place
abbrev pub HasText : Place → TextDigest → Tree → Type 0
HasText place digest tree = (bytes : List ℕ) × (tree place ≡ Some (File bytes)) × IsText digest bytes

-- the bytes are fewer than the text has, or they are the text
abbrev pub IsPart : TextDigest → List ℕ → Type 0
IsPart digest bytes = (length bytes < digest.length) ⊎ IsText digest bytes

-- a file is at the place that is shorter than the text, or that is the text
abbrev pub HasPart : Place → TextDigest → Tree → Type 0
HasPart place digest tree = (bytes : List ℕ) × (tree place ≡ Some (File bytes)) × IsPart digest bytes

-- the action can be done
abbrev pub IsReady : StageAction → Tree → Type 0
IsReady (Takes from to) tree = CanRename tree (from, to)
IsReady (Makes place) tree = CanTake tree place
IsReady (Clears place) tree = tree place ≡ Some Directory
IsReady (Removes place digest) tree = HasText place digest tree
IsReady (RemovesPart place digest) tree = (tree place ≡ None) ⊎ HasPart place digest tree

-- the action is done
abbrev pub IsDone : StageAction → Tree → Type 0
IsDone (Takes from to) tree = (tree from ≡ None) × IsSome (tree to)
IsDone (Makes place) tree = tree place ≡ Some Directory
IsDone (Clears place) tree = (tree place ≡ None) ⊎ HasBelow tree place
IsDone (Removes place digest) tree = tree place ≡ None
IsDone (RemovesPart place digest) tree = tree place ≡ None

-- an action that is ready is done, one that is done changes nothing, and no other can be done
pub record Does (action : StageAction) (old new : Tree) : Type 0 where
  pub can : IsReady action old ⊎ IsDone action old
  pub acts : IsReady action old → Acts (tree_action action) old new
  pub stays : IsDone action old → new ≡ old

-- of an action that is ready nothing or all is done, one that is done changes nothing, and so does any other
pub record MayDo (action : StageAction) (old new : Tree) : Type 0 where
  pub only : (new ≡ old) ⊎ IsReady action old
  pub acts : IsReady action old → (new ≡ old) ⊎ Acts (tree_action action) old new
  pub stays : IsDone action old → new ≡ old

-- of a new text nothing is written; or, where nothing is and a directory is above, a part, or all of it; and nothing else changes
abbrev pub MayWrite : Place → TextDigest → Tree → Tree → Type 0
MayWrite place digest old new = (new ≡ old)
    ⊎ (CanTake old place × (bytes : List ℕ) × IsPart digest bytes × Acts (tree_actions.Write place bytes) old new)

-- the tree is one after the actions
abbrev pub IsAfter : List StageAction → Tree → Tree → Type 0
IsAfter [] start tree = tree ≡ start
IsAfter (action ∷ actions) start tree = (next : Tree) × Acts (tree_action action) start next × IsAfter actions next tree

-- each action is ready when it comes, and P holds in the end
abbrev pub LeadsTo : List StageAction → (Tree → Type 0) → Tree → Type 0
LeadsTo [] P tree = P tree
LeadsTo (action ∷ actions) P tree =
    IsReady action tree × ((next : Tree) → Acts (tree_action action) tree next → LeadsTo actions P next)
