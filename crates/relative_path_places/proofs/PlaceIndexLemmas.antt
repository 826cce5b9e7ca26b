-- An index after an insertion.
use Rattle.std.proofs.Common.{◌≡◌, ℕ, ◌<◌, ◌+◌, true, false, List, [], ◌∷◌, ◌++◌, length, Option, Some, None, IfSome, unwrap_or, Bool, cond, inl, inr, refl, sym, ap, ◌∙◌, arith, true≢false}
use Rattle.std.proofs.lemmas.Bool.{cases_lt}
use Rattle.std.proofs.lemmas.List.{get_or_append_left, get_or_push, length_push}
use Rattle.std.proofs.lemmas.Slice.Eq.{bytes_eq-Decides}
use Rattle.std.specs.BTreeMap.{get_by_text}
use Rattle.std.specs.Map.{update}
use Rattle.std.specs.Str.{bytes_eq}
use Rattle.relative_path.specs.Steps.{Step}
use Rattle.relative_path.specs.Walk.{IsSame}
use Rattle.relative_path.specs.Normalizing.{IsNormalTextOf}
use Rattle.relative_path.proofs.ForCallers.{IsSame-refl, IsSame-sym, IsSame-trans}
use Rattle.relative_path_places.specs.declared.place_index.PlaceIndex.{PlaceIndex}
use Rattle.relative_path_places.specs.PlaceIndex.{IsFirstAt, IsNoneAt, IsFoundAt, Indexes}

-- lists that lead to the same have the same normal text
normal_text_same : (cs ds : List Step) (one other : List ℕ) → IsSame cs ds → IsNormalTextOf cs one
    → IsNormalTextOf ds other → other ≡ one
normal_text_same cs ds one other same h k =
    h.only other k.normal_text (IsSame-trans same k.same)

-- a path that was found is found after one more is inserted
IsFirstAt-kept : (paths : List (List Step)) (path cs : List Step) (k : ℕ) → IsFirstAt paths cs k
    → IsFirstAt (paths ++ path ∷ []) cs k
IsFirstAt-kept paths path cs k is = record {
  within = omega (arith, is.within, length_push paths path);
  same = rw (get_or_append_left paths (path ∷ []) [] k is.within) is.same;
  first = λ j before same.
      is.first j before (rw (get_or_append_left paths (path ∷ []) [] j (omega (arith, is.within, before))) at same);
}

-- if no path was found, no path is found after one more is inserted that leads elsewhere
IsNoneAt-kept : (paths : List (List Step)) (path cs : List Step) → (¬ IsSame cs path) → IsNoneAt paths cs
    → IsNoneAt (paths ++ path ∷ []) cs
IsNoneAt-kept paths path cs elsewhere none = λ k within same. elim (cases_lt k (length paths)) [
  | inl before ↦ none k before (rw (get_or_append_left paths (path ∷ []) [] k before) at same)
  | inr last ↦
      let next : length paths ≡ k = omega (arith, within, length_push paths path) in
      elsewhere (rw (get_or_push paths path [] k next) at same)
]

-- if no path was found, an inserted path that leads there is the first
IsFirstAt-next : (paths : List (List Step)) (path cs : List Step) → IsSame cs path → IsNoneAt paths cs
    → IsFirstAt (paths ++ path ∷ []) cs (length paths)
IsFirstAt-next paths path cs same none = record {
  within = omega (arith, length_push paths path);
  same = rw (get_or_push paths path [] (length paths) refl) same;
  first = λ j before leads. none j before (rw (get_or_append_left paths (path ∷ []) [] j before) at leads);
}

-- the number that was found for an inserted path, or otherwise its own number, is that of the first path
IsFirstAt-or : (paths : List (List Step)) (path cs : List Step) (found : Option ℕ) → IsSame cs path
    → IsFoundAt paths cs found → IsFirstAt (paths ++ path ∷ []) cs (unwrap_or found (length paths))
IsFirstAt-or paths path cs None same none = IsFirstAt-next paths path cs same none
IsFirstAt-or paths path cs (Some k) same is = IsFirstAt-kept paths path cs k is

-- what is found for a place where the inserted path doesn't lead
IsFoundAt-kept : (paths : List (List Step)) (path cs : List Step) (found : Option ℕ) → (¬ IsSame cs path)
    → IsFoundAt paths cs found → IsFoundAt (paths ++ path ∷ []) cs found
IsFoundAt-kept paths path cs None elsewhere none = IsNoneAt-kept paths path cs elsewhere none
IsFoundAt-kept paths path cs (Some k) elsewhere is = IsFirstAt-kept paths path cs k is

-- under the normal text of an inserted path the index has the number that it had, or otherwise the new number
abbrev pub IsInserted : PlaceIndex → PlaceIndex → List ℕ → ℕ → Type 0
IsInserted old new text number = (other : List ℕ) → get_by_text new.by_text other
    ≡ update bytes_eq (get_by_text old.by_text) text (Some (unwrap_or (get_by_text old.by_text text) number)) other

-- the index after an insertion
pub Indexes-insert : (paths : List (List Step)) (path : List Step) (old new : PlaceIndex) (text : List ℕ) (number : ℕ)
    → IsNormalTextOf path text → IsInserted old new text number → Indexes paths old → length paths ≡ number
    → Indexes (paths ++ path ∷ []) new
Indexes-insert paths path old new text number normal inserted index next =
    record { within = within; found = found } where
      count : length (paths ++ path ∷ []) ≡ length paths + 1
      count = length_push paths path

      -- the number that the index now has for the text
      here : (had : Option ℕ) (k : ℕ) → ((j : ℕ) → had ≡ Some j → j < length paths)
          → Some (unwrap_or had number) ≡ Some k → k < length (paths ++ path ∷ [])
      here None k held is = let e = ap (λ found. unwrap_or found 0) is in omega (arith, e, next, count)
      here (Some j) k held is =
          let e = ap (λ found. unwrap_or found 0) is in omega (arith, e, held j refl, count)

      within : (other : List ℕ) (k : ℕ) → get_by_text new.by_text other ≡ Some k → k < length (paths ++ path ∷ [])
      within other k is = tell (bytes_eq text other) (sym (inserted other) ∙ is) where
        tell : (b : Bool)
            → cond b (Some (unwrap_or (get_by_text old.by_text text) number)) (get_by_text old.by_text other) ≡ Some k
            → k < length (paths ++ path ∷ [])
        tell true is = here (get_by_text old.by_text text) k (index.within text) is
        tell false is = omega (arith, index.within other k is, count)

      found : (cs : List Step) (other : List ℕ) → IsNormalTextOf cs other
          → IsFoundAt (paths ++ path ∷ []) cs (get_by_text new.by_text other)
      found cs other has = tell (bytes_eq text other) (bytes_eq-Decides text other) (inserted other) where
        tell : (b : Bool) → ((b ≡ true → text ≡ other) × (text ≡ other → b ≡ true))
            → get_by_text new.by_text other
            ≡ cond b (Some (unwrap_or (get_by_text old.by_text text) number)) (get_by_text old.by_text other)
            → IsFoundAt (paths ++ path ∷ []) cs (get_by_text new.by_text other)
        tell true (same, _) is =
            let has_text = rw (sym (same refl)) at has in
            rw (is, sym next)
            (IsFirstAt-or paths path cs _ (IsSame-trans has_text.same (IsSame-sym normal.same))
            (index.found cs text has_text))
        tell false (_, differs) is =
            rw is
            (IsFoundAt-kept paths path cs _
            (λ same. true≢false (sym (differs (normal_text_same cs path other text same has normal))))
            (index.found cs other has))

-- the number of the first path that leads where the inserted path leads
pub IsFirstAt-insert : (paths : List (List Step)) (path : List Step) (old : PlaceIndex) (text : List ℕ)
    (number first : ℕ) → IsNormalTextOf path text → first ≡ unwrap_or (get_by_text old.by_text text) number
    → Indexes paths old → length paths ≡ number → IsFirstAt (paths ++ path ∷ []) path first
IsFirstAt-insert paths path old text number first normal is index next =
    rw (is, sym next)
    (IsFirstAt-or paths path path _ (IsSame-refl path) (index.found path text normal))

-- a number in the index is that of one of its paths
pub within-found : (index : PlaceIndex) (text : List ℕ) (found : Option ℕ) → found ≡ get_by_text index.by_text text
    → IfSome found (λ k. (paths : List (List Step)) → Indexes paths index → k < length paths)
within-found index text None is = tt
within-found index text (Some k) is = λ paths indexes. indexes.within text k (sym is)
