-- What the entries of a disk say is at each place.
use Rattle.std.specs.Prelude.{◌≡◌, ℕ, List, [], ◌∷◌, ◌++◌, Option, Some, None, drop, length, map, string_bytes, if◌then◌else◌}
use Rattle.std.specs.Borrow.{Bor}
use Rattle.std.specs.List.{starts_with}
use Rattle.std.specs.Str.{bytes_eq}
use Rattle.relmove_stages_disk.specs.declared.entry.Entry.{Entry}
use Rattle.relmove_stages_disk.specs.declared.entry.Node.{Node}
use Rattle.relmove_stages_disk.specs.declared.entry.Node.TheVariants as nodes
use Rattle.relmove_trees.specs.FileTrees as trees
use Rattle.relmove_trees.specs.FileTrees.{Place, Tree, names_of, with_node}

-- what is at a place
pub record Item : Type 0 where
  pub place : Place
  pub node : trees.Node

-- what a node of the code is
abbrev pub node_of : Node → trees.Node
node_of nodes.Directory = trees.Directory
node_of (nodes.File bytes) = trees.File bytes.items
node_of (nodes.Symlink text) = trees.Symlink (string_bytes text)

-- what is at the names of the entry's path
abbrev pub item_of : Entry → Item
item_of entry = record { place = names_of entry.path.text; node = node_of entry.node }

-- the tree of items: each is at its place, the first one if several have one place, and nothing is elsewhere
abbrev pub tree_of : List Item → Tree
tree_of [] = λ place. None
tree_of (item ∷ items) = with_node item.place (Some item.node) (tree_of items)

-- the tree of entries
abbrev pub entries_tree : List Entry → Tree
entries_tree entries = tree_of (map item_of entries)

-- the place is below the top
abbrev pub IsBelow : Place → Place → Type 0
IsBelow place top = (n : List ℕ) × (rest : Place) × (place ≡ top ++ n ∷ rest)

-- what is behind a reference, if anything
abbrev pub node_at : Option (Bor Node) → Option trees.Node
node_at None = None
node_at (Some node) = Some (node_of node.now)

-- an item after a rename: what was at or below the one place is at or below the other
abbrev pub moved : Place → Place → Item → Item
moved from to item =
    if starts_with bytes_eq item.place from then record item { place = to ++ drop (length from) item.place } else item
