-- Paths that begin or end with another, given by their components.
use Rattle.std.specs.Prelude.{◌≡◌, ℕ, zero, suc, List, ◌++◌}
use Rattle.relative_path.specs.Steps.{Step}
use Rattle.relative_path.specs.Slices.{IsRest}

-- the components begin with those of the prefix
abbrev pub StartsWith : List Step → List Step → Type 0
StartsWith cs prefix = (rest : List Step) × (cs ≡ prefix ++ rest)

-- the components end with those of the child
abbrev pub EndsWith : List Step → List Step → Type 0
EndsWith cs child = (front : List Step) × (cs ≡ front ++ child)

-- r is what is left of the text after its rest is taken n times: without the first n components and the slashes after
-- them
abbrev pub IsDropped : List ℕ → ℕ → List ℕ → Type 0
IsDropped text zero r = r ≡ text
IsDropped text (suc n) r = (rest : List ℕ) × IsRest text rest × IsDropped rest n r
