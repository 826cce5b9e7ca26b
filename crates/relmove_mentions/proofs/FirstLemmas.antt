-- The first of a list with a property, and the elements of a list one after another.
use Rattle.std.proofs.Common.{◌≡◌, ◌⊎◌, List, [], ◌∷◌, ◌++◌, ◌∙◌, inl, inr, refl, subst, sym, arith}
use Rattle.std.specs.List.{Contains}
use Rattle.std.proofs.lemmas.List.Elements.{Contains-append_left, Contains-append_right, Contains-append_cases, Contains-push, Contains-push_cases}
use Rattle.relmove_mentions.specs.First.{IsFirst}

-- ---- elements

-- an element of a list of one
single : {X : Type 0} (x y : X) → Contains (x ∷ []) y → x ≡ y
single x y has = elim (Contains-push_cases [] x y has) [
  | inl (k, within, is) ↦ absurd (omega (arith, within))
  | inr is ↦ is
]

-- the first element, or another one
pub first_or_rest : {X : Type 0} (x : X) (xs : List X) (y : X) → Contains (x ∷ xs) y → (x ≡ y) ⊎ Contains xs y
first_or_rest x xs y has = elim (Contains-append_cases (x ∷ []) xs y has) [
  | inl first ↦ inl (single x y first)
  | inr rest ↦ inr rest
]

pub first : {X : Type 0} (x : X) (xs : List X) → Contains (x ∷ xs) x
first x xs = Contains-append_left (x ∷ []) xs x (Contains-push [] x)

pub rest : {X : Type 0} (x : X) (xs : List X) (y : X) → Contains xs y → Contains (x ∷ xs) y
rest x xs y has = Contains-append_right (x ∷ []) xs y has

-- ---- the first with a property

-- it has the property
pub IsFirst-holds : {X : Type 0} (P : X → Type 0) (xs : List X) (x : X) → IsFirst P xs x → P x
IsFirst-holds P [] x is = absurd is
IsFirst-holds P (y ∷ ys) x is = elim is [
  | inl (holds, same) ↦ subst P same holds
  | inr (not, later) ↦ IsFirst-holds P ys x later
]

-- it is an element
pub IsFirst-Contains : {X : Type 0} (P : X → Type 0) (xs : List X) (x : X) → IsFirst P xs x → Contains xs x
IsFirst-Contains P [] x is = absurd is
IsFirst-Contains P (y ∷ ys) x is = elim is [
  | inl (holds, same) ↦ subst (Contains (y ∷ ys)) same (first y ys)
  | inr (not, later) ↦ rest y ys x (IsFirst-Contains P ys x later)
]

-- there is only one
pub IsFirst-unique : {X : Type 0} (P : X → Type 0) (xs : List X) (x y : X) → IsFirst P xs x → IsFirst P xs y → x ≡ y
IsFirst-unique P [] x y is also = absurd is
IsFirst-unique P (z ∷ zs) x y (inl (holds, same)) (inl (_, also)) = sym same ∙ also
IsFirst-unique P (z ∷ zs) x y (inl (holds, same)) (inr (not, later)) = absurd (not holds)
IsFirst-unique P (z ∷ zs) x y (inr (not, later)) (inl (holds, same)) = absurd (not holds)
IsFirst-unique P (z ∷ zs) x y (inr (not, later)) (inr (_, also)) = IsFirst-unique P zs x y later also

-- it stays the first if more come after it
pub IsFirst-append : {X : Type 0} (P : X → Type 0) (xs ys : List X) (x : X) → IsFirst P xs x → IsFirst P (xs ++ ys) x
IsFirst-append P [] ys x is = absurd is
IsFirst-append P (z ∷ zs) ys x is = elim is [
  | inl here ↦ inl here
  | inr (not, later) ↦ inr (not, IsFirst-append P zs ys x later)
]

-- after elements without the property the next one with it is the first
pub IsFirst-push : {X : Type 0} (P : X → Type 0) (xs : List X) (x : X) → ((y : X) → Contains xs y → ¬ P y) → P x
    → IsFirst P (xs ++ x ∷ []) x
IsFirst-push P [] x none holds = inl (holds, refl)
IsFirst-push P (y ∷ ys) x none holds =
    inr (none y (first y ys), IsFirst-push P ys x (λ z has. none z (rest y ys z has)) holds)

-- it is the first of a front, or no element of the front has the property, and it is the first of what comes after
pub IsFirst-append_cases : {X : Type 0} (P : X → Type 0) (xs ys : List X) (x : X) → IsFirst P (xs ++ ys) x
    → IsFirst P xs x ⊎ (((y : X) → Contains xs y → ¬ P y) × IsFirst P ys x)
IsFirst-append_cases P [] ys x is = inr ((λ y (k, within, same). absurd (omega (arith, within))), is)
IsFirst-append_cases P (z ∷ zs) ys x is = elim is [
  | inl here ↦ inl (inl here)
  | inr (not, later) ↦ elim (IsFirst-append_cases P zs ys x later) [
    | inl front ↦ inl (inr (not, front))
    | inr (none, after) ↦ inr (
      (λ y has. elim (first_or_rest z zs y has) [
        | inl same ↦ subst (λ a. ¬ P a) same not
        | inr more ↦ none y more
      ]),
      after,
    )
  ]
]
