-- What work leads to.
use Rattle.std.specs.Prelude.{ℕ, List, [], ◌∷◌, Some, None, map}
use Rattle.relmove_actions.specs.declared.actions.Rename.{Rename as RunRename}
use Rattle.relmove_journal.specs.declared.work.Work.{Work}
use Rattle.relmove_stages.specs.Runs.{CanInitiate, IsAllDone, Leads, Trees, writes_of}
use Rattle.relmove_stages.specs.StageActions.{place_of}
use Rattle.relmove_trees.specs.FileTrees.{Directory, File, Tree, after_rename, with_node}
use Rattle.relmove_trees.specs.TreeActions.{Action, Clear, Make, Remove, Rename, Write}

-- the tree after an action that is done; a directory is cleared as if nothing were in it
abbrev pub after_action : Action → Tree → Tree
after_action (Write place bytes) tree = with_node place (Some (File bytes)) tree
after_action (Rename from to) tree = after_rename (from, to) tree
after_action (Make place) tree = with_node place (Some Directory) tree
after_action (Remove place) tree = with_node place None tree
after_action (Clear place) tree = with_node place None tree

-- the tree after actions, one after another
abbrev pub after_actions : List Action → Tree → Tree
after_actions [] tree = tree
after_actions (action ∷ actions) tree = after_actions actions (after_action action tree)

-- renames of a run
abbrev pub renames_of : List RunRename → List Action
renames_of renames = map (λ rename. Rename (place_of rename.from) (place_of rename.to)) renames

-- the trees between the stages of a run with this work and these new texts, from this tree
abbrev pub written_tree : Work → List (List ℕ) → Tree → Tree
written_tree work texts tree = after_actions (writes_of work.texts.items texts) tree

abbrev pub staged_tree : Work → List (List ℕ) → Tree → Tree
staged_tree work texts tree = after_actions (renames_of work.staged.items) (written_tree work texts tree)

abbrev pub made_tree : Work → List (List ℕ) → Tree → Tree
made_tree work texts tree =
    after_actions (map (λ path. Make (place_of path)) work.made.items) (staged_tree work texts tree)

abbrev pub placed_tree : Work → List (List ℕ) → Tree → Tree
placed_tree work texts tree = after_actions (renames_of work.placed.items) (made_tree work texts tree)

abbrev pub trees_of : Work → List (List ℕ) → Tree → Trees
trees_of work texts tree = record {
  before = tree;
  written = written_tree work texts tree;
  staged = staged_tree work texts tree;
  made = made_tree work texts tree;
  placed = placed_tree work texts tree;
}

-- the work can be carried out on the tree, with these new texts, and Q holds of the tree after all its actions
pub record LeadsThere (work : Work) (texts : List (List ℕ)) (Q : Tree → Type 0) (tree : Tree) : Type 0 where
  pub leads : Leads work (trees_of work texts tree)
  pub initiates : CanInitiate work texts (trees_of work texts tree)
  pub ends : (end : Tree) → IsAllDone work (trees_of work texts tree) end → Q end
