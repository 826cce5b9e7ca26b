-- Two lists of components without those that both begin with.
use Rattle.std.specs.Prelude.{◌≡◌, List, [], ◌∷◌, ◌++◌}
use Rattle.relative_path.specs.Steps.{Step}
use Rattle.relative_path.specs.Prefixing.{StartsWith}

-- no component begins both of the lists
abbrev pub PartAtOnce : List Step → List Step → Type 0
PartAtOnce cs ds = (c : Step) → StartsWith cs (c ∷ []) → ¬ StartsWith ds (c ∷ [])

-- both lists begin with the same front; after it come these two lists, and no component begins both of them
pub record EndApart (cs ds cs_end ds_end : List Step) : Type 0 where
  pub front : List Step
  pub first : cs ≡ front ++ cs_end
  pub second : ds ≡ front ++ ds_end
  pub apart : PartAtOnce cs_end ds_end
