-- Sorted paths: what is below a path comes after it, and before it if they are turned round.
use Rattle.std.proofs.Common.{AllPairs, ◌≡◌, ◌≢◌, ℕ, ◌<◌, ◌≤◌, ◌-◌, false, true≢false, List, [], ◌∷◌, ◌++◌, map, length, get_or, refl, sym, ap, subst, ◌∙◌, append_assoc, arith}
use Rattle.std.proofs.lemmas.Bool.Decides.{nat_tests}
use Rattle.std.proofs.lemmas.Cmp.{nat_cmp_total, lists_total}
use Rattle.std.proofs.lemmas.List.{get_or-map, get_or-reverse, length-map, length-reverse, map_push, reverse-append, reverse-reverse}
use Rattle.std.proofs.lemmas.List.Sorted.{ranks_by, sorted_far}
use Rattle.std.proofs.lemmas.Simd.{map-map}
use Rattle.std.specs.Cmp.Lexicographic.{slice_cmp}
use mathlib.Core.List.{reverse}
use Rattle.std.specs.List.Sorted.{IsSortedBy}
use Rattle.std.specs.Ordering.{is_lt, nat_cmp, ordering_then}
use Rattle.std.specs.declared.cmp.Ordering.TheVariants.{Less, Equal, Greater}
use Rattle.std.specs.declared.cmp.Ordering.{Ordering}
use Rattle.relative_path.specs.Steps.{slash}
use Rattle.relmove_steps.specs.Actions.{IsBelow, BelowFirst, AboveFirst}

pub nat_cmp-self : (x : ℕ) → nat_cmp x x ≡ Equal
nat_cmp-self x = grind (arith, nat_tests)

-- a text comes before each that goes on after it
slice_cmp-longer : (top : List ℕ) (b : ℕ) (rest : List ℕ) → slice_cmp nat_cmp top (top ++ b ∷ rest) ≡ Less
slice_cmp-longer [] b rest = refl
slice_cmp-longer (x ∷ top) b rest = rw (nat_cmp-self x, slice_cmp-longer top b rest) refl

-- by the first text, and then by something else
first_cmp : (o p : Ordering) → is_lt (ordering_then o p) ≡ false → is_lt o ≡ false
first_cmp Less p is = is
first_cmp Equal p is = refl
first_cmp Greater p is = refl

module _ {X : Type 0} (key : X → List ℕ) (other : X → X → Ordering) (xs : List X)
    (sorted : IsSortedBy (λ a b. is_lt (ordering_then (slice_cmp nat_cmp (key a) (key b)) (other a b))) xs)
  where
    by_key : IsSortedBy (λ a b. is_lt (slice_cmp nat_cmp (key a) (key b))) xs
    by_key = λ k d low high. first_cmp _ _ (sorted k d low high)

    -- a later path has no earlier one below it
    not_below : (i j : ℕ) (d : X) → i ≤ j → j < length xs → ¬ IsBelow (key (get_or xs i d)) (key (get_or xs j d))
    not_below i j d order within (rest, below) =
        let far =
        sorted_far (λ a b. is_lt (slice_cmp nat_cmp (key a) (key b))) (ranks_by (lists_total nat_cmp_total) key) xs by_key i j d
        order within in
        let less : slice_cmp nat_cmp (key (get_or xs j d)) (key (get_or xs i d)) ≡ Less =
        rw below (slice_cmp-longer (key (get_or xs j d)) slash rest) in
        true≢false (sym (ap is_lt less) ∙ far)

-- the paths of a sorted list
pub AboveFirst-sorted : {X : Type 0} (xs : List X) (key : X → List ℕ) (other : X → X → Ordering)
    → IsSortedBy (λ a b. is_lt (ordering_then (slice_cmp nat_cmp (key a) (key b)) (other a b))) xs
    → AboveFirst (map key xs)
AboveFirst-sorted [] key other sorted = λ i j l within. absurd (let w : j < 0 = within in omega (arith, w))
AboveFirst-sorted (x ∷ xs) key other sorted = λ i j l within below.
    let w : j < length (x ∷ xs) = rw length-map at within in
    let v : i < length (x ∷ xs) = omega (arith, l, w) in
    not_below key other (x ∷ xs) sorted i j x (omega (arith, l)) w (
      below.0,
      sym (get_or-map key (x ∷ xs) i x [] v) ∙ below.1
          ∙ ap (λ top. top ++ slash ∷ below.0) (get_or-map key (x ∷ xs) j x [] w),
    )

-- the paths, turned round
pub BelowFirst-reverse : (paths : List (List ℕ)) → AboveFirst paths → BelowFirst (reverse paths)
BelowFirst-reverse paths above = λ i j l within below.
    let w : j < length paths = rw length-reverse at within in
    let v : i < length paths = omega (arith, l, w) in
    above (length paths - 1 - j) (length paths - 1 - i) (omega (arith, l, w)) (omega (arith, v)) (
      below.0,
      sym (get_or-reverse paths j [] w) ∙ below.1
          ∙ ap (λ top. top ++ slash ∷ below.0) (get_or-reverse paths i [] v),
    )

-- texts that differ, turned round
pub AllDifferent-reverse : (texts : List (List ℕ)) → AllPairs (λ one other. one ≢ other) texts
    → AllPairs (λ one other. one ≢ other) (reverse texts)
AllDifferent-reverse texts differ = λ i j d l within same.
    let w : j < length texts = rw length-reverse at within in
    let v : i < length texts = omega (arith, l, w) in
    differ (length texts - 1 - j) (length texts - 1 - i) d (omega (arith, l, w)) (omega (arith, v))
    (sym (get_or-reverse texts j d w) ∙ sym same ∙ get_or-reverse texts i d v)

pub map-reverse : {X Y : Type 0} (f : X → Y) (xs : List X) → map f (reverse xs) ≡ reverse (map f xs)
map-reverse f [] = refl
map-reverse f (x ∷ xs) =
    ap (map f) (reverse-append (x ∷ []) xs) ∙ map_push f (reverse xs) x
    ∙ ap (λ ys. ys ++ f x ∷ []) (map-reverse f xs) ∙ sym (reverse-append (f x ∷ []) (map f xs))

-- what is left is turned round, behind what was taken
pub reverse-push : {K : Type 0} (taken paths : List K) (path : K)
    → taken ++ reverse (paths ++ path ∷ []) ≡ (taken ++ path ∷ []) ++ reverse paths
reverse-push taken paths path =
    ap (λ rest. taken ++ rest) (reverse-append paths (path ∷ [])) ∙ sym (append_assoc taken (path ∷ []) (reverse paths))

-- what was taken, and what is left, turned round, as one more is taken
pub reverse-next : {X Y K : Type 0} (f : Y → K) (key : X → K) (taken : List Y) (left rest : List X) (y : Y) (x : X)
    → f y ≡ key x → left ≡ rest ++ x ∷ []
    → map f (taken ++ y ∷ []) ++ reverse (map key rest) ≡ map f taken ++ reverse (map key left)
reverse-next f key taken left rest y x same is =
    ap (λ paths. paths ++ reverse (map key rest)) (map_push f taken y)
    ∙ ap (λ path. (map f taken ++ path ∷ []) ++ reverse (map key rest)) same
    ∙ sym (reverse-push (map f taken) (map key rest) (key x))
    ∙ ap (λ paths. map f taken ++ reverse paths) (sym (map_push key rest x) ∙ ap (map key) (sym is))

-- one part of each, turned round
pub map_part-reverse : {X Y K L : Type 0} (part : K → L) (f : Y → K) (key : X → K) (taken : List Y) (all : List X)
    → map f taken ≡ reverse (map key all) → map (λ y. part (f y)) taken ≡ reverse (map (λ x. part (key x)) all)
map_part-reverse part f key taken all is =
    sym (map-map part f taken) ∙ ap (map part) is ∙ map-reverse part (map key all)
    ∙ ap reverse (map-map part key all)

-- paths that are turned round twice
pub AboveFirst-twice : {X : Type 0} (xs ys : List X) (key : X → List ℕ) → ys ≡ reverse xs → AboveFirst (map key xs)
    → AboveFirst (reverse (map key ys))
AboveFirst-twice xs ys key is above =
    subst AboveFirst (sym (sym (map-reverse key ys) ∙ ap (map key) (ap reverse is ∙ reverse-reverse xs))) above
