-- Where renames carry a place: the first rename whose path is the place's or above it takes the place along.
use Rattle.std.proofs.Common.{All, Bool, true, false, ◌≡◌, ◌⊎◌, ℕ, zero, suc, ◌<◌, ◌≤◌, List, [], ◌∷◌, ◌++◌, length, drop, take, get_or, inl, inr, refl, sym, ap, ◌∙◌, arith}
use Rattle.std.proofs.Math.Seq.{drop-append_seam, take-append_seam}
use Rattle.std.proofs.lemmas.List.{take-append-drop, take-append-le}
use Rattle.std.proofs.lemmas.List.Elements.{All-tail, All-take}
use Rattle.std.specs.List.{starts_with}
use Rattle.std.specs.Str.{bytes_eq}
use Rattle.relmove_trees.specs.FileTrees.{IsUnder}
use Rattle.relmove_plan.proofs.RunWords.{renamed, carried}
use Rattle.relmove_trees.proofs.FileTreesLemmas.{starts, under_or}

-- ---- one rename

pub renamed-under : (from to place below : List (List ℕ)) → place ≡ from ++ below → renamed (from, to) place ≡ to ++ below
renamed-under from to place below is =
    rw ((starts place from).1 below is)
    (ap (λ rest. to ++ rest) (ap (drop (length from)) is ∙ drop-append_seam from below))

pub renamed-elsewhere : (from to place : List (List ℕ)) → ¬ IsUnder place from → renamed (from, to) place ≡ place
renamed-elsewhere from to place elsewhere = by (starts_with bytes_eq place from) refl
  where
    by : (b : Bool) → starts_with bytes_eq place from ≡ b → renamed (from, to) place ≡ place
    by true is = absurd (elsewhere (drop (length from) place, (starts place from).0 is))
    by false is = rw is refl

-- ---- several renames

pub carried-append : (actions more : List (List (List ℕ) × List (List ℕ))) (place : List (List ℕ))
    → carried (actions ++ more) place ≡ carried more (carried actions place)
carried-append [] more place = refl
carried-append (step ∷ actions) more place = carried-append actions more (renamed step place)

-- the first m renames, and then the others
pub carried-take : (actions : List (List (List ℕ) × List (List ℕ))) (m : ℕ) (place : List (List ℕ))
    → carried actions place ≡ carried (drop m actions) (carried (take m actions) place)
carried-take actions m place =
    ap (λ renames. carried renames place) (sym (take-append-drop m actions))
    ∙ carried-append (take m actions) (drop m actions) place

pub carried-elsewhere : (actions : List (List (List ℕ) × List (List ℕ))) (place : List (List ℕ))
    → All (λ step. ¬ IsUnder place step.0) actions → carried actions place ≡ place
carried-elsewhere [] place elsewhere = refl
carried-elsewhere (step ∷ actions) place elsewhere =
    ap (carried actions) (renamed-elsewhere step.0 step.1 place (elsewhere zero step (omega arith)))
    ∙ carried-elsewhere actions place
    (All-tail (λ (step : List (List ℕ) × List (List ℕ)). ¬ IsUnder place step.0) step actions elsewhere)

-- the root stays, if nothing leaves from there
pub carried-root : (actions : List (List (List ℕ) × List (List ℕ))) (k : ℕ) → All (λ step. ¬ IsUnder [] step.0) actions
    → carried (take k actions) [] ≡ []
carried-root actions k apart =
    carried-elsewhere (take k actions) []
    (All-take (λ (step : List (List ℕ) × List (List ℕ)). ¬ IsUnder [] step.0) k actions apart)

-- the place is taken along by rename number i and by none before it, and nothing leaves from where it comes to
pub carried-by : (actions : List (List (List ℕ) × List (List ℕ))) (i : ℕ) (step : List (List ℕ) × List (List ℕ))
    (place below : List (List ℕ)) → i < length actions → get_or actions i step ≡ step → place ≡ step.0 ++ below
    → ((j : ℕ) → j < i → ¬ IsUnder place (get_or actions j step).0)
    → All (λ other. ¬ IsUnder (step.1 ++ below) other.0) actions → carried actions place ≡ step.1 ++ below
carried-by [] i step place below within is under before clear = absurd (let w : i < 0 = within in omega (arith, w))
carried-by (first ∷ actions) zero step place below within is under before clear =
    ap (λ first. carried actions (renamed first place)) is
    ∙ ap (carried actions) (renamed-under step.0 step.1 place below under)
    ∙ carried-elsewhere actions (step.1 ++ below)
    (All-tail (λ (other : List (List ℕ) × List (List ℕ)). ¬ IsUnder (step.1 ++ below) other.0) first actions clear)
carried-by (first ∷ actions) (suc i) step place below within is under before clear =
    ap (carried actions) (renamed-elsewhere first.0 first.1 place (before zero (omega arith)))
    ∙ carried-by actions i step place below (omega (arith, within)) is under (λ j l. before (suc j) (omega (arith, l)))
    (All-tail (λ (other : List (List ℕ) × List (List ℕ)). ¬ IsUnder (step.1 ++ below) other.0) first actions clear)

-- what comes to a place is there already, if no rename leads to there or to above
pub carried-still : (actions : List (List (List ℕ) × List (List ℕ))) (place end : List (List ℕ))
    → All (λ step. ¬ IsUnder end step.1) actions → carried actions place ≡ end → place ≡ end
carried-still [] place end none comes = comes
carried-still (step ∷ actions) place end none comes =
    by (under_or place step.0)
    (carried-still actions (renamed step place) end
    (All-tail (λ (step : List (List ℕ) × List (List ℕ)). ¬ IsUnder end step.1) step actions none) comes)
  where
    by : IsUnder place step.0 ⊎ (¬ IsUnder place step.0) → renamed step place ≡ end → place ≡ end
    by (inl (below, is)) there =
        absurd (none zero step (omega arith) (below, sym there ∙ renamed-under step.0 step.1 place below is))
    by (inr elsewhere) there = sym (renamed-elsewhere step.0 step.1 place elsewhere) ∙ there

-- ---- places above one place

-- of two places above a third, the one with fewer names is above the other
pub IsUnder-shorter : (place one other : List (List ℕ)) → IsUnder place one → IsUnder place other
    → length one ≤ length other → IsUnder other one
IsUnder-shorter place one other (below, is) (below_2, is_2) short =
    let front : take (length one) other ≡ one =
    sym (take-append-le (length one) other below_2 short) ∙ ap (take (length one)) (sym is_2 ∙ is)
    ∙ take-append_seam one below in (
      drop (length one) other,
      sym (take-append-drop (length one) other) ∙ ap (λ top. top ++ drop (length one) other) front,
    )
