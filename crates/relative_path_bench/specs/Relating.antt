-- When two paths lead to the same place, as two cases.
use Rattle.std.specs.Prelude.{◌≡◌, ◌⊎◌, ℕ, List, Some, None}
use Rattle.relative_path.specs.Steps.{Step}
use Rattle.relative_path.specs.Walk.{walk}

-- both lead to this place
abbrev pub EndAt : List (List ℕ) → List Step → List Step → List (List ℕ) → Type 0
EndAt base cs ds place = (walk base cs ≡ Some place) × (walk base ds ≡ Some place)

-- both climb above the top
abbrev pub ClimbAway : List (List ℕ) → List Step → List Step → Type 0
ClimbAway base cs ds = (walk base cs ≡ None) × (walk base ds ≡ None)

-- from every base, both climb above the top or both end in the same place: `IsSame`, as two cases
abbrev pub EndAlike : List Step → List Step → Type 0
EndAlike cs ds = (base : List (List ℕ)) → ClimbAway base cs ds ⊎ ((place : List (List ℕ)) × EndAt base cs ds place)
