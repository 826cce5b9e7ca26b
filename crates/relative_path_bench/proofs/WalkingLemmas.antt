-- Calls at either end of an iterator, one after another.
use Rattle.std.proofs.Common.{◌≡◌, ℕ, suc, zero, ◌-◌, ◌<◌, ◌↔◌, List, [], ◌∷◌, ◌++◌, length, take, drop, get_or, Option, Some, None, IsSome, sym, refl, ap, ◌∙◌, subst, append_assoc, append-nil, arith, true≢false, length-append, length-drop, length-take-le}
use Rattle.relative_path.specs.declared.component.Component.{Component}
use Rattle.relative_path.specs.Steps.{components}
use Rattle.relative_path.specs.Components.{step_of}
use Rattle.relative_path_bench.specs.declared.walking.End.{End}
use Rattle.relative_path_bench.specs.declared.walking.End.TheVariants.{Front, Back}
use Rattle.relative_path_bench.specs.Walking.{TakesAt, TakesInTurn, firsts, lasts, IsTakenInTurn}

-- one call more
pub TakesInTurn-push : (text : List ℕ) (es : List End) (ts : List (Option Component)) (middle : List ℕ)
    (e : End) (t : Option Component) (left : List ℕ)
    → TakesInTurn text es ts middle → TakesAt e middle t left → TakesInTurn text (es ++ e ∷ []) (ts ++ t ∷ []) left
TakesInTurn-push text [] [] middle e t left same takes = (left, subst (λ x. TakesAt e x t left) same takes, refl)
TakesInTurn-push text [] (u ∷ ts) middle e t left none takes = absurd none
TakesInTurn-push text (d ∷ es) [] middle e t left none takes = absurd none
TakesInTurn-push text (d ∷ es) (u ∷ ts) middle e t left (next, first, others) takes =
    (next, first, TakesInTurn-push next es ts middle e t left others takes)

-- each component is taken once, or remains
pub once-TakesInTurn : (text : List ℕ) (es : List End) (ts : List (Option Component)) (left : List ℕ)
    → TakesInTurn text es ts left → components text ≡ (firsts es ts ++ components left) ++ lasts es ts
once-TakesInTurn text [] [] left same = ap components (sym same) ∙ sym (append-nil (components left))
once-TakesInTurn text [] (t ∷ ts) left none = absurd none
once-TakesInTurn text (e ∷ es) [] left none = absurd none
once-TakesInTurn text (Front ∷ es) (Some c ∷ ts) left (next, (taken, _), others) =
    taken ∙ ap (λ cs. step_of c ∷ cs) (once-TakesInTurn next es ts left others)
once-TakesInTurn text (Front ∷ es) (None ∷ ts) left (next, (none, rest), others) =
    none ∙ sym (rest.other_components ∙ ap (drop 1) none) ∙ once-TakesInTurn next es ts left others
once-TakesInTurn text (Back ∷ es) (Some c ∷ ts) left (next, (taken, _), others) =
    taken ∙ ap (λ cs. cs ++ step_of c ∷ []) (once-TakesInTurn next es ts left others)
    ∙ append_assoc (firsts es ts ++ components left) (lasts es ts) (step_of c ∷ [])
once-TakesInTurn text (Back ∷ es) (None ∷ ts) left (next, (none, front), others) =
    none ∙ sym (front.same_components ∙ ap (λ cs. take (length cs - 1) cs) none)
    ∙ once-TakesInTurn next es ts left others

-- how many components a call leaves
length-TakesAt : (e : End) (text : List ℕ) (t : Option Component) (next : List ℕ) → TakesAt e text t next
    → length (components next) ≡ length (components text) - 1
length-TakesAt Front text t next (_, rest) = ap length rest.other_components ∙ length-drop 1 (components text)
length-TakesAt Back text t next (_, front) =
    ap length front.same_components ∙ length-take-le (length (components text) - 1) (components text) (omega arith)

-- a call returns a component exactly if there is one
some-TakesAt : (e : End) (text : List ℕ) (t : Option Component) (next : List ℕ) → TakesAt e text t next
    → IsSome t ↔ (0 < length (components text))
some-TakesAt Front text None next (none, _) =
    (λ some. absurd (true≢false (sym some)), λ more. absurd (let e = ap length none in omega (arith, e, more)))
some-TakesAt Front text (Some c) next (taken, _) = (λ _. let e = ap length taken in omega (arith, e), λ _. refl)
some-TakesAt Back text None next (none, _) =
    (λ some. absurd (true≢false (sym some)), λ more. absurd (let e = ap length none in omega (arith, e, more)))
some-TakesAt Back text (Some c) next (taken, _) =
    (λ _. let e = ap length taken ∙ length-append (components next) (step_of c ∷ []) in omega (arith, e), λ _. refl)

-- call number k returns a component exactly if there are more than k components
pub none_for_good-TakesInTurn : (text : List ℕ) (es : List End) (ts : List (Option Component)) (left : List ℕ)
    → TakesInTurn text es ts left → (k : ℕ) → k < length es
    → IsSome (get_or ts k None) ↔ (k < length (components text))
none_for_good-TakesInTurn text [] ts left turns k inside = absurd (omega arith)
none_for_good-TakesInTurn text (e ∷ es) [] left none k inside = absurd none
none_for_good-TakesInTurn text (e ∷ es) (t ∷ ts) left (next, first, others) zero inside =
    some-TakesAt e text t next first
none_for_good-TakesInTurn text (e ∷ es) (t ∷ ts) left (next, first, others) (suc k) inside =
    let rest = none_for_good-TakesInTurn next es ts left others k (omega arith) in
    let one = length-TakesAt e text t next first in
    (λ some. let more = rest.0 some in omega (arith, one, more), λ more. rest.1 (omega (arith, one, more)))

pub IsTakenInTurn-from : (text : List ℕ) (es : List End) (ts : List (Option Component)) (left : List ℕ)
    → TakesInTurn text es ts left → IsTakenInTurn text es ts left
IsTakenInTurn-from text es ts left turns = record {
  calls = turns;
  once = once-TakesInTurn text es ts left turns;
  none_for_good = none_for_good-TakesInTurn text es ts left turns;
}
