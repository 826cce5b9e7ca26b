-- Trees of files, as what is at each place.
use Rattle.std.specs.Prelude.{◌≡◌, ℕ, List, [], ◌∷◌, ◌++◌, length, drop, map, Option, Some, None, IsSome, if◌then◌else◌}
use Rattle.std.specs.List.{starts_with}
use Rattle.std.specs.Str.{bytes_eq}
use Rattle.relative_path.specs.Steps.{components, step_text}

-- a directory, a file with its bytes, or a symbolic link with its text
pub data Node : Type 0 where
  Directory : Node
  File : (bytes : List ℕ) → Node
  Symlink : (text : List ℕ) → Node

-- a place is the names that lead to it, the topmost first
abbrev pub Place : Type 0
Place = List (List ℕ)

-- the names of a path, in order
abbrev pub names_of : List ℕ → Place
names_of text = map step_text (components text)

-- what is at each place, if anything is
abbrev pub Tree : Type 0
Tree = Place → Option Node

-- the root is a directory, and so is what is above anything
pub record IsWholeTree (tree : Tree) : Type 0 where
  pub root : tree [] ≡ Some Directory
  pub above : (top : Place) (n : List ℕ) → IsSome (tree (top ++ n ∷ [])) → tree top ≡ Some Directory

-- the place is the top, or below it
abbrev pub IsUnder : Place → Place → Type 0
IsUnder place top = (rest : Place) × (place ≡ top ++ rest)

-- something is below the place
abbrev pub HasBelow : Tree → Place → Type 0
HasBelow tree place = (n : List ℕ) × (rest : Place) × IsSome (tree (place ++ n ∷ rest))

-- nothing is at the place or below
abbrev pub HasNothing : Tree → Place → Type 0
HasNothing tree place = (rest : Place) → tree (place ++ rest) ≡ None

-- nothing is at the place or below, and a directory is above it
pub record CanTake (tree : Tree) (place : Place) : Type 0 where
  pub top : Place
  pub last : List ℕ
  pub split : place ≡ top ++ last ∷ []
  pub held : tree top ≡ Some Directory
  pub free : HasNothing tree place

-- ---- the tree after a change

-- the first node at the place itself, and the second below it
abbrev pub at_or_below : Option Node → Option Node → Place → Option Node
at_or_below at below [] = at
at_or_below at below (n ∷ rest) = below

-- the tree with another node at the place, or with none
unfoldable pub with_node : Place → Option Node → Tree → Tree
with_node place node tree = λ other.
    if starts_with bytes_eq other place then at_or_below node (tree other) (drop (length place) other) else tree other

-- the tree after a rename from the one place to the other: what was at the old one and below is at the new one and below
unfoldable pub after_rename : Place × Place → Tree → Tree
after_rename rename tree = λ place.
    if starts_with bytes_eq place rename.1 then tree (rename.0 ++ drop (length rename.1) place)
    else if starts_with bytes_eq place rename.0 then None else tree place
