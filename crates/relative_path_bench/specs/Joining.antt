-- Three lists of components joined in normal form, in either order.
use Rattle.std.specs.Prelude.{ℕ, List, ◌++◌}
use Rattle.relative_path.specs.Steps.{Step, components}
use Rattle.relative_path.specs.Normalizing.{IsNormalTextOf}

-- first cs and ds, and then es after them
abbrev pub IsJoinedFromTheLeft : (cs ds es : List Step) → List ℕ → Type 0
IsJoinedFromTheLeft cs ds es text =
    (first : List ℕ) × IsNormalTextOf (cs ++ ds) first × IsNormalTextOf (components first ++ es) text

-- first ds and es, and then cs before them
abbrev pub IsJoinedFromTheRight : (cs ds es : List Step) → List ℕ → Type 0
IsJoinedFromTheRight cs ds es text =
    (first : List ℕ) × IsNormalTextOf (ds ++ es) first × IsNormalTextOf (cs ++ components first) text
