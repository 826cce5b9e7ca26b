-- The first of a list with a property.
use Rattle.std.specs.Prelude.{◌≡◌, ◌⊎◌, List, [], ◌∷◌}

-- of the elements with this property it is the first
abbrev pub IsFirst : {X : Type 0} → (X → Type 0) → List X → X → Type 0
IsFirst P [] x = ⊥
IsFirst P (y ∷ ys) x = (P y × (y ≡ x)) ⊎ ((¬ P y) × IsFirst P ys x)
