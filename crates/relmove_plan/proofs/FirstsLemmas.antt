-- The first of several renames that takes a place along, if one does.
use Rattle.std.proofs.Common.{All, ◌≡◌, ◌≢◌, ◌⊎◌, ℕ, zero, suc, ◌<◌, ◌+◌, List, [], ◌∷◌, ◌++◌, Some, length, map, take, get_or, inl, inr, refl, sym, ap, ◌∙◌, arith}
use Rattle.std.proofs.lemmas.List.Elements.{All-cons, All-nil}
use Rattle.relative_path.specs.Steps.{Step, name}
use Rattle.relative_path.specs.Walk.{place_of}
use Rattle.relative_path.proofs.ForCallers.{walk-names}
use Rattle.relative_path_places.specs.PlaceIndex.{IsNoneAt, path_at}
use Rattle.relmove_trees.specs.FileTrees.{IsUnder}
use Rattle.relmove_plan.proofs.WholeTreesLemmas.{some_of}
use Rattle.relmove_trees.proofs.FileTreesLemmas.{place_or, under_or}
use Rattle.relmove_plan.proofs.SourcesLemmas.{any_or}
use Rattle.std.proofs.lemmas.List.{get_or_default}

-- of the renames, this one is the first from the place or from above it
pub record FirstUnder (actions : List (List (List ℕ) × List (List ℕ))) (place : List (List ℕ)) : Type 0 where
  pub number : ℕ
  pub step : List (List ℕ) × List (List ℕ)
  pub below : List (List ℕ)
  pub within : number < length actions
  pub here : get_or actions number step ≡ step
  pub under : place ≡ step.0 ++ below
  pub before : (j : ℕ) (d : List (List ℕ) × List (List ℕ)) → j < number → ¬ IsUnder place (get_or actions j d).0

-- no rename leads from the place or from above it, or one is the first that does
pub first_under : (actions : List (List (List ℕ) × List (List ℕ))) (place : List (List ℕ))
    → All (λ step. ¬ IsUnder place step.0) actions ⊎ FirstUnder actions place
first_under [] place = inl (All-nil (λ (step : List (List ℕ) × List (List ℕ)). ¬ IsUnder place step.0))
first_under (step ∷ actions) place = by (under_or place step.0) (first_under actions place)
  where
    before_next : (m : ℕ) → ¬ IsUnder place step.0
        → ((j : ℕ) (d : List (List ℕ) × List (List ℕ)) → j < m → ¬ IsUnder place (get_or actions j d).0)
        → (j : ℕ) (d : List (List ℕ) × List (List ℕ)) → j < suc m → ¬ IsUnder place (get_or (step ∷ actions) j d).0
    before_next m none before zero d less = none
    before_next m none before (suc j) d less = before j d (omega (arith, less))

    by : IsUnder place step.0 ⊎ (¬ IsUnder place step.0)
        → All (λ step. ¬ IsUnder place step.0) actions ⊎ FirstUnder actions place
        → All (λ step. ¬ IsUnder place step.0) (step ∷ actions) ⊎ FirstUnder (step ∷ actions) place
    by (inl (below, under)) rest = inr (record {
      number = 0;
      step = step;
      below = below;
      within = omega arith;
      here = refl;
      under = under;
      before = λ j d less. absurd (omega (arith, less));
    })
    by (inr none) (inl others) =
        inl (All-cons (λ (step : List (List ℕ) × List (List ℕ)). ¬ IsUnder place step.0) step actions none others)
    by (inr none) (inr first) =
        let inside = first.within in
        inr (record {
          number = suc first.number;
          step = first.step;
          below = first.below;
          within = omega (arith, inside);
          here = first.here;
          under = first.under;
          before = before_next first.number none first.before;
        })

-- the first of two lists and some of the second
pub take-append_more : {X : Type 0} (xs ys : List X) (m : ℕ) → take (length xs + m) (xs ++ ys) ≡ xs ++ take m ys
take-append_more {X} [] ys m = let none : 0 + m ≡ m = omega arith in ap (λ n. take n ys) none
take-append_more {X} (x ∷ xs) ys m =
    let next : suc (length xs) + m ≡ suc (length xs + m) = omega arith in
    ap (λ n. take n (x ∷ xs ++ ys)) next ∙ ap (λ rest. x ∷ rest) (take-append_more xs ys m)

-- one of several paths, each of which leads to a place, leads to this one, or none does
pub one_at_or : (paths : List (List Step)) → All (λ cs. (p : List (List ℕ)) × (place_of cs ≡ Some p)) paths
    → (place : List (List ℕ))
    → IsNoneAt paths (map name place) ⊎ ((k : ℕ) × (k < length paths) × (place_of (path_at paths k) ≡ Some place))
one_at_or paths placed place = elim (any_or (λ (cs : List Step). place_of cs ≡ Some place) paths at) [
  | inl (k, cs, within, is, leads) ↦ inr (k, within, ap place_of (get_or_default paths k [] cs within ∙ is) ∙ leads)
  | inr none ↦ inl (λ k within same. none k [] within (sym (same.everywhere []) ∙ walk-names [] place))
]
  where
    at : All (λ cs. (place_of cs ≡ Some place) ⊎ (place_of cs ≢ Some place)) paths
    at k d within =
        let (p, leads) = placed k d within in
        elim (place_or place p) [
          | inl same ↦ inl (leads ∙ ap Some (sym same))
          | inr differ ↦ inr (λ here. differ (some_of (sym here ∙ leads)))
        ]
