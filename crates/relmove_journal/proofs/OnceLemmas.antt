-- Lemmas on lists that have the same paths, each once.
use Rattle.std.proofs.Common.{◌≡◌, ◌≢◌, ℕ, suc, zero, ◌+◌, ◌<◌, Bool, true, false, ◌⊎◌, inl, inr, List, [], ◌∷◌, Bor, length, map, drop, get_or, nat_eq, IsPermutation, Ordering, Less, Equal, Greater, is_lt, refl, sym, ap, ap₂, subst, ◌∙◌, true≢false}
use native.Mathlib.Omega.{arith}
use Rattle.std.specs.Bool.{Decides}
use Rattle.std.specs.Cmp.Lexicographic.{nat_list_cmp_total, on_texts, pointwise, slice_cmp, texts_ties}
use Rattle.std.specs.List.{AllAdjacentBelow, AllByRecursion, Contains, IsAllAdjacentAnswer}
use Rattle.std.specs.List.Sorted.{IsSorted, IsStrictlySortedBy}
use Rattle.std.specs.Ordering.{eq_by_cmp, nat_cmp, ordering_reverse}
use Rattle.std.proofs.lemmas.Bool.{and_from, and_parts}
use Rattle.std.proofs.lemmas.List.{get_or-map, length-map}
use Rattle.std.proofs.lemmas.List.Elements.{All-contains, All-from_recursion}
use Rattle.std.proofs.lemmas.List.Sorted.{Contains-permutation, IsPermutation-map, IsPermutation-sym, IsPermutation-trans}
use Rattle.std.proofs.lemmas.Map.Keys.{IsDistinct-from_sorted, IsDistinct-IsPermutation, Less-from_sorted, sorted_from_all_adjacent, sorted_head, sorted_tail}
use Rattle.std.proofs.lemmas.Map.Made.{AllPairs-from_IsDistinct, IsDistinct-from_AllPairs}
use Rattle.std.proofs.lemmas.Slice.Eq.{bytes_eq-Decides}
use Rattle.relmove_journal.specs.Shape.{AreAscending, AreDifferent, HaveSameOnce}

-- the texts to which references lead
abbrev texts_at : List (Bor (List ℕ)) → List (List ℕ)
texts_at xs = map (λ x. x.now) xs

-- `==` on lists of texts
same_texts : (xs ys : List (Bor (List ℕ))) → pointwise (λ x y. pointwise nat_eq x.now y.now) xs ys ≡ true
    → texts_at xs ≡ texts_at ys
same_texts [] [] same = refl
same_texts [] (y ∷ ys) same = absurd (true≢false (sym same))
same_texts (x ∷ xs) [] same = absurd (true≢false (sym same))
same_texts (x ∷ xs) (y ∷ ys) same =
    let (first, others) = and_parts _ _ same in
    ap₂ (λ t ts. t ∷ ts) ((bytes_eq-Decides x.now y.now).0 first) (same_texts xs ys others)

-- texts are equal if neither comes before the other
eq_by_cmp-Decides : (s t : List ℕ) → Decides (eq_by_cmp (slice_cmp nat_cmp) s t) (s ≡ t)
eq_by_cmp-Decides s t = subst (λ b. Decides b (s ≡ t)) (texts_ties s t) (bytes_eq-Decides s t)

eq_by_cmp-flips : (s t : List ℕ) → eq_by_cmp (slice_cmp nat_cmp) s t ≡ eq_by_cmp (slice_cmp nat_cmp) t s
eq_by_cmp-flips s t = go _ _ refl refl
  where
    go : (a b : Bool) → eq_by_cmp (slice_cmp nat_cmp) s t ≡ a → eq_by_cmp (slice_cmp nat_cmp) t s ≡ b
        → eq_by_cmp (slice_cmp nat_cmp) s t ≡ eq_by_cmp (slice_cmp nat_cmp) t s
    go true b one other = one ∙ sym ((eq_by_cmp-Decides t s).1 (sym ((eq_by_cmp-Decides s t).0 one)))
    go false true one other =
        absurd (true≢false (sym ((eq_by_cmp-Decides s t).1 (sym ((eq_by_cmp-Decides t s).0 other))) ∙ one))
    go false false one other = one ∙ sym other

-- of paths that ascend in some order no two are equal
AreDifferent-ascending : (paths others : List (List ℕ)) → IsPermutation paths others → AreAscending others
    → AreDifferent paths
AreDifferent-ascending paths others same ascend =
    AllPairs-from_IsDistinct eq_by_cmp-Decides paths
    (IsDistinct-IsPermutation (eq_by_cmp (slice_cmp nat_cmp)) eq_by_cmp-flips others paths (IsPermutation-sym paths others same)
    (IsDistinct-from_sorted (slice_cmp nat_cmp) others ascend))

-- two lists that are equal once they are sorted, and ascend then, have the same paths, each once
pub HaveSameOnce-sorted : (paths sorted others other_sorted : List (Bor (List ℕ))) → IsPermutation paths sorted
    → IsPermutation others other_sorted
    → pointwise (λ x y. pointwise nat_eq x.now y.now) sorted other_sorted ≡ true → AreAscending (texts_at sorted)
    → HaveSameOnce (texts_at paths) (texts_at others)
HaveSameOnce-sorted paths sorted others other_sorted moved other_moved same ascend =
    let one = IsPermutation-map (λ x. x.now) paths sorted moved in
    let other = IsPermutation-sym _ _ (IsPermutation-map (λ x. x.now) others other_sorted other_moved) in
    record {
      same = IsPermutation-trans _ (texts_at sorted) _ one
          (subst (λ l. IsPermutation l (texts_at others)) (sym (same_texts sorted other_sorted same)) other);
      different = AreDifferent-ascending (texts_at paths) (texts_at sorted) one ascend;
    }

-- a list that ascends once it is sorted has no path twice
pub AreDifferent-sorted : (paths sorted : List (Bor (List ℕ))) → IsPermutation paths sorted
    → AreAscending (texts_at sorted) → AreDifferent (texts_at paths)
AreDifferent-sorted paths sorted moved ascend =
    AreDifferent-ascending (texts_at paths) (texts_at sorted) (IsPermutation-map (λ x. x.now) paths sorted moved) ascend

is_less : (o : Ordering) → true ≡ is_lt o → o ≡ Less
is_less Less is = refl
is_less Equal is = absurd (true≢false is)
is_less Greater is = absurd (true≢false is)

ascend-map : (xs : List (Bor (List ℕ))) → IsStrictlySortedBy (λ x y. slice_cmp nat_cmp x.now y.now) xs
    → AreAscending (texts_at xs)
unfolding IsStrictlySortedBy
ascend-map [] ascend = tt
ascend-map (x ∷ xs) ascend = (each xs ascend.0, ascend-map xs ascend.1)
  where
    each : (ys : List (Bor (List ℕ))) → AllByRecursion (λ y. slice_cmp nat_cmp x.now y.now ≡ Less) ys
        → AllByRecursion (λ t. slice_cmp nat_cmp x.now t ≡ Less) (texts_at ys)
    each [] all = tt
    each (y ∷ ys) all = (all.0, each ys all.1)

-- texts ascend if each is less than the next one
pub AreAscending-next : (xs : List (Bor (List ℕ)))
    → AllAdjacentBelow (λ x y. true ≡ is_lt (slice_cmp nat_cmp x.now y.now)) xs (length xs) → AreAscending (texts_at xs)
unfolding IsStrictlySortedBy
AreAscending-next [] next = tt
AreAscending-next (x ∷ xs) next =
    ascend-map (x ∷ xs)
    (sorted_from_all_adjacent (on_texts (λ y. y.now)) (x ∷ xs) x (λ k inside. is_less _ (next k x inside)))

-- ---- the other way

-- `==` on lists of equal texts
same_texts-back : (xs ys : List (Bor (List ℕ))) → texts_at xs ≡ texts_at ys
    → pointwise (λ x y. pointwise nat_eq x.now y.now) xs ys ≡ true
same_texts-back [] [] same = refl
same_texts-back [] (y ∷ ys) same = absurd (true≢false (ap is_empty same))
  where
    is_empty : List (List ℕ) → Bool
    is_empty [] = true
    is_empty (t ∷ ts) = false
same_texts-back (x ∷ xs) [] same = absurd (true≢false (sym (ap is_empty same)))
  where
    is_empty : List (List ℕ) → Bool
    is_empty [] = true
    is_empty (t ∷ ts) = false
same_texts-back (x ∷ xs) (y ∷ ys) same =
    and_from _ _ ((bytes_eq-Decides x.now y.now).1 (ap (λ ts. get_or ts 0 []) same)) (same_texts-back xs ys (ap (drop 1) same))

-- of two texts the one comes before the other, or it doesn't
not_below : (s t : List ℕ) → slice_cmp nat_cmp s t ≡ Less → slice_cmp nat_cmp t s ≡ Less → false ≡ true
not_below s t one other =
    absurd (true≢false (ap is_lt (sym other ∙ nat_list_cmp_total.antisymm t s ∙ ap ordering_reverse one)))

-- a text that isn't less than another one is greater or equal
below : (s t : List ℕ) → is_lt (slice_cmp nat_cmp t s) ≡ false → s ≢ t → slice_cmp nat_cmp s t ≡ Less
below s t above other = go _ refl
  where
    go : (o : Ordering) → slice_cmp nat_cmp s t ≡ o → slice_cmp nat_cmp s t ≡ Less
    go Less is = is
    go Equal is = absurd (other ((eq_by_cmp-Decides s t).0 (rw is refl)))
    go Greater is =
        absurd (true≢false (sym (ap is_lt (nat_list_cmp_total.antisymm t s ∙ ap ordering_reverse is)) ∙ above))

-- an element of a list is the first one, or one of those after it
contains_cases : (x : List ℕ) (xs : List (List ℕ)) (z : List ℕ) → Contains (x ∷ xs) z → (x ≡ z) ⊎ Contains xs z
contains_cases x xs z (zero, inside, is) = inl is
contains_cases x xs z (suc k, inside, is) = inr (k, omega arith, is)

contains_more : (x : List ℕ) (xs : List (List ℕ)) (z : List ℕ) → Contains xs z → Contains (x ∷ xs) z
contains_more x xs z (k, inside, is) = (suc k, omega arith, is)

-- the first of texts that ascend is less than each other one
first_below : (x : List ℕ) (xs : List (List ℕ)) → AreAscending (x ∷ xs) → (z : List ℕ) → Contains xs z
    → slice_cmp nat_cmp x z ≡ Less
first_below x xs ascend z has =
    All-contains (λ t. slice_cmp nat_cmp x t ≡ Less) xs z
    (All-from_recursion (λ t. slice_cmp nat_cmp x t ≡ Less) xs (sorted_head (slice_cmp nat_cmp) x xs ascend)) has

-- two lists of texts that ascend and have the same texts are equal
equal-ascending : (xs ys : List (List ℕ)) → AreAscending xs → AreAscending ys → ((z : List ℕ) → Contains xs z → Contains ys z)
    → ((z : List ℕ) → Contains ys z → Contains xs z) → xs ≡ ys
equal-ascending [] [] up up′ there back = refl
equal-ascending [] (y ∷ ys) up up′ there back = let (k, inside, is) = back y (0, omega arith, refl) in absurd (omega arith)
equal-ascending (x ∷ xs) [] up up′ there back = let (k, inside, is) = there x (0, omega arith, refl) in absurd (omega arith)
equal-ascending (x ∷ xs) (y ∷ ys) up up′ there back =
    ap₂ (λ t ts. t ∷ ts) first
    (equal-ascending xs ys (sorted_tail (slice_cmp nat_cmp) x xs up) (sorted_tail (slice_cmp nat_cmp) y ys up′)
    (λ z has. rest_of x xs y ys up (sym first) z has (there z (contains_more x xs z has)))
    (λ z has. rest_of y ys x xs up′ first z has (back z (contains_more y ys z has))))
  where
    rest_of : (x : List ℕ) (xs : List (List ℕ)) (y : List ℕ) (ys : List (List ℕ)) → AreAscending (x ∷ xs) → y ≡ x
        → (z : List ℕ) → Contains xs z → Contains (y ∷ ys) z → Contains ys z
    rest_of x xs y ys up same z has both = go (contains_cases y ys z both)
      where
        go : (y ≡ z) ⊎ Contains ys z → Contains ys z
        go (inl is) =
            let less = subst (λ t. slice_cmp nat_cmp x t ≡ Less) (sym is ∙ same) (first_below x xs up z has) in
            absurd (true≢false (sym (not_below x x less less)))
        go (inr more) = more

    first : x ≡ y
    first = go (contains_cases y ys x (there x (0, omega arith, refl))) (contains_cases x xs y (back y (0, omega arith, refl)))
      where
        go : (y ≡ x) ⊎ Contains ys x → (x ≡ y) ⊎ Contains xs y → x ≡ y
        go (inl is) other = sym is
        go (inr more) (inl is) = is
        go (inr more) (inr others) =
            absurd (true≢false (sym (not_below x y (first_below x xs up y others) (first_below y ys up′ x more))))

-- no two of the paths of a list are equal in another order either
AreDifferent-IsPermutation : (paths others : List (List ℕ)) → IsPermutation paths others → AreDifferent paths
    → AreDifferent others
AreDifferent-IsPermutation paths others same different =
    AllPairs-from_IsDistinct eq_by_cmp-Decides others
    (IsDistinct-IsPermutation (eq_by_cmp (slice_cmp nat_cmp)) eq_by_cmp-flips paths others same
    (IsDistinct-from_AllPairs eq_by_cmp-Decides paths different))

-- sorted texts of which no two are equal ascend
AreAscending-different : (xs : List (Bor (List ℕ))) → IsSorted (λ x y. slice_cmp nat_cmp x.now y.now) xs
    → AreDifferent (texts_at xs) → AreAscending (texts_at xs)
AreAscending-different xs sorted different =
    AreAscending-next xs (λ k d inside. sym (ap is_lt (below (get_or xs k d).now (get_or xs (k + 1) d).now
    (sorted k d (omega arith) inside) (apart k d inside))))
  where
    apart : (k : ℕ) (d : Bor (List ℕ)) → k + 1 < length xs → (get_or xs k d).now ≢ (get_or xs (k + 1) d).now
    apart k d inside same =
        let long = length-map xs (λ x. x.now) in
        different k (k + 1) d.now (omega arith) (omega arith)
        (get_or-map (λ x. x.now) xs k d d.now (omega arith) ∙ same ∙ sym (get_or-map (λ x. x.now) xs (k + 1) d d.now inside))

-- a list whose paths are different ascends once it is sorted
pub AreAscending-sorted : (paths sorted : List (Bor (List ℕ))) → IsPermutation paths sorted
    → IsSorted (λ x y. slice_cmp nat_cmp x.now y.now) sorted → AreDifferent (texts_at paths) → AreAscending (texts_at sorted)
AreAscending-sorted paths sorted moved order different =
    AreAscending-different sorted order
    (AreDifferent-IsPermutation (texts_at paths) (texts_at sorted) (IsPermutation-map (λ x. x.now) paths sorted moved) different)

-- two lists that have the same paths, each once, are equal once they are sorted
pub same-sorted : (paths sorted others other_sorted : List (Bor (List ℕ))) → IsPermutation paths sorted
    → IsPermutation others other_sorted → IsSorted (λ x y. slice_cmp nat_cmp x.now y.now) sorted
    → IsSorted (λ x y. slice_cmp nat_cmp x.now y.now) other_sorted → HaveSameOnce (texts_at paths) (texts_at others)
    → pointwise (λ x y. pointwise nat_eq x.now y.now) sorted other_sorted ≡ true
same-sorted paths sorted others other_sorted moved other_moved order other_order once =
    let one = IsPermutation-map (λ x. x.now) paths sorted moved in
    let other = IsPermutation-map (λ x. x.now) others other_sorted other_moved in
    let both =
    IsPermutation-trans _ (texts_at others) _
    (IsPermutation-trans _ (texts_at paths) _ (IsPermutation-sym (texts_at paths) (texts_at sorted) one) once.same) other in
    let up = AreAscending-sorted paths sorted moved order once.different in
    let up′ =
    AreAscending-sorted others other_sorted other_moved other_order
    (AreDifferent-IsPermutation (texts_at paths) (texts_at others) once.same once.different) in
    let back = IsPermutation-sym (texts_at sorted) (texts_at other_sorted) both in
    same_texts-back sorted other_sorted
    (equal-ascending (texts_at sorted) (texts_at other_sorted) up up′
    (λ z has. Contains-permutation (texts_at sorted) (texts_at other_sorted) z both has)
    (λ z has. Contains-permutation (texts_at other_sorted) (texts_at sorted) z back has))

-- each of texts that ascend is less than the next one: the answer is true
pub ascends-next : (xs : List (Bor (List ℕ))) (r : Bool)
    → IsAllAdjacentAnswer (λ x y b. b ≡ is_lt (slice_cmp nat_cmp x.now y.now)) xs r → AreAscending (texts_at xs) → r ≡ true
ascends-next xs true answer ascend = refl
ascends-next [] false (k, inside, is) ascend = absurd (omega arith)
ascends-next (x ∷ xs) false (k, inside, is) ascend =
    let long = length-map (x ∷ xs) (λ y. y.now) in
    let less = Less-from_sorted (slice_cmp nat_cmp) (texts_at (x ∷ xs)) k (k + 1) x.now ascend (omega arith) (omega arith) in
    let here = get_or-map (λ y. y.now) (x ∷ xs) k x x.now (omega arith) in
    let next = get_or-map (λ y. y.now) (x ∷ xs) (k + 1) x x.now inside in
    is x ∙ ap is_lt (ap₂ (slice_cmp nat_cmp) (sym here) (sym next) ∙ less)
