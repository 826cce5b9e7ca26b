-- What calls of `next` and `next_back` return, in any order.
use Rattle.std.specs.Prelude.{◌≡◌, ℕ, ◌<◌, ◌↔◌, List, [], ◌∷◌, ◌++◌, length, Option, Some, None, IsSome, slice_index_or}
use Rattle.relative_path.specs.declared.component.Component.{Component}
use Rattle.relative_path.specs.Steps.{Step, components}
use Rattle.relative_path.specs.Components.{step_of, TakesFirst, TakesLast}
use Rattle.relative_path_bench.specs.declared.walking.End.{End}
use Rattle.relative_path_bench.specs.declared.walking.End.TheVariants.{Front, Back}

-- one call at this end of the text returned what was taken, and left this text
abbrev pub TakesAt : End → List ℕ → Option Component → List ℕ → Type 0
TakesAt Front text taken left = TakesFirst text taken left
TakesAt Back text taken left = TakesLast text taken left

-- a call at each end in turn
abbrev pub TakesInTurn : List ℕ → List End → List (Option Component) → List ℕ → Type 0
TakesInTurn text [] [] left = left ≡ text
TakesInTurn text [] (t ∷ ts) left = ⊥
TakesInTurn text (e ∷ es) [] left = ⊥
TakesInTurn text (e ∷ es) (t ∷ ts) left = (next : List ℕ) × TakesAt e text t next × TakesInTurn next es ts left

-- the components that the calls at the front took, in the order of the calls
abbrev pub firsts : List End → List (Option Component) → List Step
firsts (Front ∷ es) (Some c ∷ ts) = step_of c ∷ firsts es ts
firsts (e ∷ es) (t ∷ ts) = firsts es ts
firsts es ts = []

-- the components that the calls at the back took, in the order of the path
abbrev pub lasts : List End → List (Option Component) → List Step
lasts (Back ∷ es) (Some c ∷ ts) = lasts es ts ++ step_of c ∷ []
lasts (e ∷ es) (t ∷ ts) = lasts es ts
lasts es ts = []

-- each call returned what `next` or `next_back` returns there, each component is taken once or remains, and the calls
-- returned `None` once no component remained
pub record IsTakenInTurn (text : List ℕ) (ends : List End) (taken : List (Option Component)) (left : List ℕ) : Type 0 where
  pub calls : TakesInTurn text ends taken left
  pub once : components text ≡ (firsts ends taken ++ components left) ++ lasts ends taken
  pub none_for_good : (k : ℕ) → k < length ends → IsSome (slice_index_or taken k None) ↔ (k < length (components text))
