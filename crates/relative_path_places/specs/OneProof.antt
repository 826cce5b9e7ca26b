-- A list of components is made of names, or is normal, in one way.
use Rattle.std.specs.Prelude.{List, [], ◌∷◌}
use Rattle.std.specs.Coded.{Unit-prop}
use Rattle.relative_path.specs.Steps.{Step, cur, up, name}
use Rattle.relative_path.specs.Normalizing.{AreNames, IsNormal}

pub AreNames-prop : (cs : List Step) → IsProp (AreNames cs)
AreNames-prop [] = Unit-prop
AreNames-prop (cur ∷ cs) = λ x y. absurd x
AreNames-prop (up ∷ cs) = λ x y. absurd x
AreNames-prop (name n ∷ cs) = AreNames-prop cs

pub IsNormal-prop : (cs : List Step) → IsProp (IsNormal cs)
IsNormal-prop [] = Unit-prop
IsNormal-prop (cur ∷ cs) = λ x y. absurd x
IsNormal-prop (up ∷ cs) = IsNormal-prop cs
IsNormal-prop (name n ∷ cs) = AreNames-prop cs
