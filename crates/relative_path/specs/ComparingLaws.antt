-- The laws of the equality and the order of components and of lists of components, for the impls of the traits. A type
-- that shows components gets its own laws from `by_components`. The proofs are here too, since the laws of an impl may
-- cite only definitions.
use Rattle.std.proofs.Common.{◌≡◌, Bool, Decides, List, [], ◌∷◌, IsTrue, sym, refl, ap, ◌∙◌, arith}
use Rattle.std.specs.Cmp.{IsTotalOrder, IsEquivalence, IsPartialEquivalence, IsPartialOrder, on_total, on_equiv, then_total, and_equiv, both_tied, unsigned_ties, nat_cmp_total, nat_eq_equiv, partial_equiv_from_equiv, partial_order_from_agreeing_total}
use Rattle.std.specs.Cmp.Lexicographic.{nat_list_cmp_total, nat_list_eq_equiv, texts_ties, lists_ties, lists_total, lists_equiv, pointwise_decides}
use Rattle.std.specs.Ordering.{on, eq_by_cmp, as_partial_cmp}
use Rattle.std.specs.declared.cmp.Ordering.{Ordering}
use Rattle.std.proofs.lemmas.Bool.{and_parts, eqb-true}
use Rattle.std.proofs.lemmas.Slice.Eq.{bytes_eq-Decides}
use Rattle.relative_path.specs.Steps.{Step, cur, up, name, step_text}
use Rattle.relative_path.specs.Comparing.{step_rank, step_eq, step_cmp, steps_eq, steps_cmp, fed, fed_by}

-- an equality and an order that agree
pub record IsComparison {X : Type 0} (eq : X → X → Bool) (cmp : X → X → Ordering) : Type 0 where
  pub equivalence : IsEquivalence eq
  pub total : IsTotalOrder cmp
  pub agree : (x y : X) → eq x y ≡ eq_by_cmp cmp x y

-- a type is compared by what it shows
pub compared_by : {A X : Type 0} {eq : X → X → Bool} {cmp : X → X → Ordering} (shown : A → X) → IsComparison eq cmp
    → IsComparison (on shown eq) (on shown cmp)
compared_by shown laws = record {
  equivalence = on_equiv shown laws.equivalence;
  total = on_total shown laws.total;
  agree = λ x y. laws.agree (shown x) (shown y);
}

-- the law of `PartialEq`
pub partial_eq_law : {X : Type 0} {eq : X → X → Bool} {cmp : X → X → Ordering} → IsComparison eq cmp
    → IsPartialEquivalence eq
partial_eq_law laws = partial_equiv_from_equiv laws.equivalence

-- the law of `PartialOrd`
pub partial_ord_law : {X : Type 0} {eq : X → X → Bool} {cmp : X → X → Ordering} → IsComparison eq cmp
    → IsPartialOrder eq (as_partial_cmp cmp)
partial_ord_law {X} {eq} {cmp} laws = partial_order_from_agreeing_total cmp laws.total (λ _ _. refl) laws.agree

-- components are compared by their rank, and then by their text
pub step_comparison : IsComparison step_eq step_cmp
step_comparison = record {
  equivalence = and_equiv (on_equiv step_rank nat_eq_equiv) (on_equiv step_text nat_list_eq_equiv);
  total = then_total (on_total step_rank nat_cmp_total) (on_total step_text nat_list_cmp_total);
  agree = λ c d. both_tied _ _ _ _ (unsigned_ties (step_rank c) (step_rank d)) (texts_ties (step_text c) (step_text d));
}

-- lists of components are compared lexicographically
pub steps_comparison : IsComparison steps_eq steps_cmp
steps_comparison = record {
  equivalence = lists_equiv step_comparison.equivalence;
  total = lists_total step_comparison.total;
  agree = lists_ties step_cmp step_comparison.agree;
}

-- components of the same rank and the same text are equal
same_step : (c d : Step) → step_rank c ≡ step_rank d → step_text c ≡ step_text d → c ≡ d
same_step cur cur ranks texts = refl
same_step cur up ranks texts = absurd (omega (arith, ranks))
same_step cur (name n) ranks texts = absurd (omega (arith, ranks))
same_step up cur ranks texts = absurd (omega (arith, ranks))
same_step up up ranks texts = refl
same_step up (name n) ranks texts = absurd (omega (arith, ranks))
same_step (name m) cur ranks texts = absurd (omega (arith, ranks))
same_step (name m) up ranks texts = absurd (omega (arith, ranks))
same_step (name m) (name n) ranks texts = ap name texts

pub step_eq-Decides : (c d : Step) → Decides (step_eq c d) (c ≡ d)
step_eq-Decides c d = (
  λ e.
      let both = and_parts _ _ e in
      same_step c d (eqb-true _ _ both.0) ((bytes_eq-Decides (step_text c) (step_text d)).0 both.1),
  λ e. ap (step_eq c) (sym e) ∙ step_comparison.equivalence.refl c,
)

pub steps_eq-Decides : (cs ds : List Step) → Decides (steps_eq cs ds) (cs ≡ ds)
steps_eq-Decides = pointwise_decides step_eq-Decides

-- what shows a component is compared by the component
pub by_component : {A : Type 0} (shown : A → Step) → IsComparison (on shown step_eq) (on shown step_cmp)
by_component shown = compared_by shown step_comparison

-- what shows components is compared by the components
pub by_components : {A : Type 0} (shown : A → List Step) → IsComparison (on shown steps_eq) (on shown steps_cmp)
by_components shown = compared_by shown steps_comparison

-- values of any two types that show equal components feed a hasher the same bytes
pub fed_alike : {A B : Type 0} (shown : A → List Step) (shown' : B → List Step) (x : A) (y : B)
    → IsTrue (steps_eq (shown x) (shown' y)) → fed_by shown x ≡ fed_by shown' y
fed_alike shown shown' x y e = ap fed ((steps_eq-Decides (shown x) (shown' y)).0 e)

-- equal components feed a hasher the same bytes
pub component_fed_alike : {A B : Type 0} (shown : A → Step) (shown' : B → Step) (x : A) (y : B)
    → IsTrue (step_eq (shown x) (shown' y)) → fed (shown x ∷ []) ≡ fed (shown' y ∷ [])
component_fed_alike shown shown' x y e = ap (λ c. fed (c ∷ [])) ((step_eq-Decides (shown x) (shown' y)).0 e)
