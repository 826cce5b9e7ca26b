-- Laws of lists and options that the standard library lacks.
use Rattle.std.proofs.Common.{◌≡◌, [], Option, Some, None, IsSome, refl, List, ◌++◌, length, get_or, sym, ap, ◌∙◌, arith, length-append, ℕ, ◌≤◌, filter, inl, inr, ◌↔◌, suc, ◌+◌, true, bytes_eq, ◌≢◌, ◌==◌, eqb-true, Bool, false, ◌∷◌, ◌⊎◌}
use Rattle.std.proofs.lemmas.List.{get_or_at, length_push, nil_from_length}
use Rattle.std.specs.Prelude.{slice_get}
use Rattle.std.specs.List.{common_prefix_len}
use Rattle.std.proofs.lemmas.Bool.{cond-true, cond-false, cases_Bool, eqb-false}
use Rattle.std.proofs.lemmas.Slice.Eq.{bytes_eq-Decides}
use Rattle.relative_path.specs.Steps.{is_not_empty}

-- ---- lists

-- equal lists have the same last element
pub last_same : {A : Type 0} (cs ds : List A) (c d : A) → cs ++ c ∷ [] ≡ ds ++ d ∷ [] → c ≡ d
last_same cs ds c d e =
    let count : length ds ≡ length cs =
    omega (arith, ap length e, length-append cs (c ∷ []), length-append ds (d ∷ [])) in
    sym (get_or_at cs c [] c (length cs) refl) ∙ ap (λ l. get_or l (length cs) c) e
    ∙ get_or_at ds d [] c (length cs) count

-- a list is empty or has a last element
pub last_view : {A : Type 0} (cs : List A) → (cs ≡ []) ⊎ ((ds : List A) × (c : A) × (cs ≡ ds ++ c ∷ []))
last_view [] = inl refl
last_view (c ∷ cs) = elim (last_view cs) [
  | inl none ↦ inr ([], c, ap (λ x. c ∷ x) none)
  | inr (ds, d, joined) ↦ inr (c ∷ ds, d, ap (λ x. c ∷ x) joined)
]

pub head_same : {A : Type 0} {c d : A} {ds : List A} → c ∷ [] ≡ d ∷ ds → c ≡ d
head_same {c} {d} {ds} e = ap (λ cs. get_or cs 0 c) e

pub slice_get-at : {A : Type 0} (cs : List A) (c : A) (ds : List A) → slice_get (cs ++ c ∷ ds) (length cs) ≡ Some c
slice_get-at [] c ds = refl
slice_get-at (b ∷ cs) c ds = slice_get-at cs c ds

pub length-snoc : (ms : List (List ℕ)) (n : List ℕ) → length (ms ++ n ∷ []) ≡ suc (length ms)
length-snoc ms n = omega (arith, length_push ms n)

pub length-filter_le : (ps : List (List ℕ)) → length (filter is_not_empty ps) ≤ length ps
length-filter_le [] = omega arith
length-filter_le ([] ∷ ps) = omega (arith, length-filter_le ps)
length-filter_le ((b ∷ bs) ∷ ps) = omega (arith, length-filter_le ps)

-- ---- texts

-- what a test for the empty text says
pub nil_from_is_empty : (text : List ℕ) (b : Bool) → b ≡ (length text == 0) → b ≡ true → text ≡ []
nil_from_is_empty text b is e = nil_from_length text (eqb-true _ _ (sym is ∙ e))

pub some_from_is_empty : (text : List ℕ) (b : Bool) → b ≡ (length text == 0) → b ≡ false → text ≢ []
some_from_is_empty text b is e empty = eqb-false _ _ (sym is ∙ e) (ap length empty)

pub bytes_eq-same : (n : List ℕ) → bytes_eq n n ≡ true
bytes_eq-same n = (bytes_eq-Decides n n).1 refl

common_prefix_len-same : (ns : List (List ℕ)) → common_prefix_len bytes_eq ns ns ≡ length ns
common_prefix_len-same [] = refl
common_prefix_len-same (n ∷ ns) =
    cond-true (bytes_eq n n) _ _ (bytes_eq-same n) ∙ (let rest = common_prefix_len-same ns in omega arith)

same_from_common : (ms ns : List (List ℕ)) → common_prefix_len bytes_eq ms ns ≡ length ms
    → common_prefix_len bytes_eq ms ns ≡ length ns → ms ≡ ns
same_from_common [] [] all all' = refl
same_from_common [] (n ∷ ns) all all' = absurd (omega (arith, all'))
same_from_common (m ∷ ms) [] all all' = absurd (omega (arith, all))
same_from_common (m ∷ ms) (n ∷ ns) all all' = elim (cases_Bool (bytes_eq m n)) [
  | inl e ↦
      let counted = sym (cond-true (bytes_eq m n) (1 + common_prefix_len bytes_eq ms ns) 0 e) in
      let first = counted ∙ all in
      let second = counted ∙ all' in
      let same = (bytes_eq-Decides m n).0 e in
      let rest = same_from_common ms ns (omega arith) (omega arith) in
      cc
  | inr e ↦
      let none = sym (cond-false (bytes_eq m n) (1 + common_prefix_len bytes_eq ms ns) 0 e) ∙ all in
      absurd (omega arith)
]

-- two lists are equal exactly if the elements that both begin with are all of both
pub common_all : (ms ns : List (List ℕ))
    → ((common_prefix_len bytes_eq ms ns ≡ length ms) × (common_prefix_len bytes_eq ms ns ≡ length ns)) ↔ (ms ≡ ns)
common_all ms ns = (
  λ all. same_from_common ms ns all.0 all.1,
  λ same. (
    ap (common_prefix_len bytes_eq ms) (sym same) ∙ common_prefix_len-same ms,
    ap (λ x. common_prefix_len bytes_eq x ns) same ∙ common_prefix_len-same ns,
  ),
)

-- ---- options

-- an option that is there has a value
pub IsSome-value : {A : Type 0} (o : Option A) → IsSome o → (x : A) × (o ≡ Some x)
IsSome-value None some = absurd (cc)
IsSome-value (Some x) some = (x, refl)
