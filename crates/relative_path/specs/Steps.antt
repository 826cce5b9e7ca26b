-- A text that is cut at its slashes: the components of a path, and the text that spells them.
use Rattle.std.specs.Prelude.{◌≡◌, ℕ, ◌+◌, Bool, true, false, ◌==◌, List, [], ◌∷◌, map, length, if◌then◌else◌}
use Rattle.std.specs.List.{filter, slice_split, join_with_byte, AllByRecursion}
use Rattle.std.specs.Str.{bytes_eq}

-- `b'/'`
abbrev pub slash : ℕ
slash = 47

-- `b'.'`
abbrev pub dot : ℕ
dot = 46

-- the byte is a slash
abbrev pub is_slash : ℕ → Bool
is_slash b = b == slash

-- the piece has at least one byte
abbrev pub is_not_empty : List ℕ → Bool
is_not_empty [] = false
is_not_empty (b ∷ bs) = true

-- the text cut at each slash, without the empty pieces
unfoldable pub pieces : List ℕ → List (List ℕ)
pieces text = filter is_not_empty (slice_split is_slash text)

-- a component as a step from a place: `.` stays, `..` goes up, a name goes down
pub data Step : Type 0 where
  cur : Step
  up : Step
  name : List ℕ → Step

-- the text of a component
abbrev pub step_text : Step → List ℕ
step_text cur = dot ∷ []
step_text up = dot ∷ dot ∷ []
step_text (name n) = n

-- the component that a piece stands for
abbrev pub classed : List ℕ → Step
classed piece =
    if bytes_eq piece (step_text cur) then cur else if bytes_eq piece (step_text up) then up else name piece

-- the components of a text
unfoldable pub components : List ℕ → List Step
components text = map classed (pieces text)

-- the texts of the components, joined by single slashes
abbrev pub spell : List Step → List ℕ
spell cs = join_with_byte slash (map step_text cs)

-- how many bytes the components have, with a slash after each
abbrev pub slashed_len : List Step → ℕ
slashed_len [] = 0
slashed_len (c ∷ cs) = length (step_text c) + 1 + slashed_len cs

-- the text of the component has this one component and no other
abbrev pub SpellsItself : Step → Type 0
SpellsItself c = components (step_text c) ≡ c ∷ []

-- each component spells itself
abbrev pub SpellThemselves : List Step → Type 0
SpellThemselves cs = AllByRecursion SpellsItself cs
