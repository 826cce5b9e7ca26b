-- Where a path leads. A place is a list of names, the topmost first; the empty list is the top.
use Rattle.std.specs.Prelude.{◌≡◌, ℕ, List, [], ◌∷◌, ◌++◌, length, take, Option, Some, None}
use Rattle.std.specs.Option.{option_and_then, option_map}
use Rattle.relative_path.specs.Steps.{Step, cur, up, name}

-- the place above a place: its names without the last; the top has no place above it
abbrev pub above : List (List ℕ) → Option (List (List ℕ))
above [] = None
above (n ∷ ns) = Some (take (length ns) (n ∷ ns))

-- the place where components lead from a base; no place if they climb above the top
abbrev pub walk : List (List ℕ) → List Step → Option (List (List ℕ))
walk base [] = Some base
walk base (cur ∷ cs) = walk base cs
walk base (up ∷ cs) = option_and_then (λ place. walk place cs) (above base)
walk base (name n ∷ cs) = walk (base ++ n ∷ []) cs

-- the place where components lead from the top; no place if they climb above it
abbrev pub place_of : List Step → Option (List (List ℕ))
place_of cs = walk [] cs

-- from every base both lead to the same place, or neither leads to a place
pub record IsSame (cs ds : List Step) : Type 0 where
  pub everywhere : (base : List (List ℕ)) → walk base cs ≡ walk base ds

-- from every base, es leads where ds leads from the place where cs leads
pub record LeadsInTurn (cs ds es : List Step) : Type 0 where
  pub everywhere : (base : List (List ℕ)) → walk base es ≡ option_and_then (λ place. walk place ds) (walk base cs)

-- from every base, ds leads to this place below the place where cs leads; where cs leads to no place, neither does ds
pub record LeadsBelow (cs : List Step) (place : List (List ℕ)) (ds : List Step) : Type 0 where
  pub everywhere : (base : List (List ℕ)) → walk base ds ≡ option_map (λ top. top ++ place) (walk base cs)

-- from every base, ds leads to the same place below the place where cs leads
pub record StaysBelow (cs ds : List Step) : Type 0 where
  pub place : List (List ℕ)
  pub below : LeadsBelow cs place ds
