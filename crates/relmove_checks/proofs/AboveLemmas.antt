-- Entries of a kind above a path, after the moves: found from the path upwards.
use Rattle.std.proofs.Common.{◌≡◌, ◌≢◌, ℕ, zero, suc, ◌<◌, ◌≤◌, Bool, true, false, true≢false, List, [], ◌∷◌, ◌++◌, map, length, take, get_or, MatchBool, inl, inr, refl, sym, ap, subst, ◌∙◌, append_assoc, take_at, arith}
use Rattle.std.proofs.lemmas.Bool.{cases_lt, cases_order}
use Rattle.std.proofs.lemmas.List.{get_or-map, get_or_default, length-append, length-map}
use Rattle.std.proofs.lemmas.Option.{slice_get_cases}
use Rattle.std.proofs.lemmas.Slice.Zip.{AllZip-long}
use Rattle.std.specs.List.{AllZip}
use Rattle.relative_path.specs.Steps.{Step, components}
use Rattle.relative_path.specs.Walk.{IsSame}
use Rattle.relative_path.proofs.ForCallers.{IsSame-sym, IsSame-trans}
use Rattle.relative_path.proofs.OnLiterals.{relative_path_on_literals}
use Rattle.relative_path_places.specs.declared.place_index.PlaceIndex.{PlaceIndex}
use Rattle.relative_path_moves.specs.Moves.{Move}
use Rattle.relative_path_places.specs.PlaceIndex.{IsFirstAt, IsNoneAt, path_at}
use Rattle.relative_path_moves.proofs.ForCallers.{IsTreePath-only}
use Rattle.relmove_checks.specs.declared.entry.Entry.{Entry}
use Rattle.relmove_checks.specs.declared.entry.Kind.{Kind}
use Rattle.relmove_checks.specs.Trees.{IsAfter, IndexesAfter, IsAtAfter, HasAt, HasAbove}

-- ---- the directory above a path

-- the empty text has no component
pub components-nil : components [] ≡ []
unfolding relative_path_on_literals
components-nil = refl

-- a front without a byte has no component
pub length-components : (text front : List ℕ) (last : Step) → components text ≡ components front ++ last ∷ []
    → front ≡ [] → length (components text) ≤ 1
length-components text front last is empty =
    let none : components front ≡ [] = ap components empty ∙ components-nil in
    omega (arith, ap length is, length-append (components front) (last ∷ []), ap length none)

-- ---- the walk up from a path

pub some_long : {X : Type 0} (xs : List X) → xs ≢ [] → 1 ≤ length xs
some_long [] some = absurd (some refl)
some_long (x ∷ xs) some = omega arith

-- equally long fronts of a list are equal
pub same_front : (front other rest more : List Step) → front ++ rest ≡ other ++ more → length front ≡ length other
    → front ≡ other
same_front front other rest more is count =
    sym (take_at front rest (length other) count) ∙ ap (take (length other)) is ∙ take_at other more (length other) refl

-- the components begin with the front, and no front of theirs that is as long or longer leads to such an entry
pub record IsClearFrom (is_kind : Kind → Bool) (moves : List Move) (entries : List Entry) (cs front : List Step) : Type 0 where
  pub under : List Step
  pub split : cs ≡ front ++ under
  pub clear : (longer rest : List Step) → cs ≡ longer ++ rest → rest ≢ [] → length front ≤ length longer
      → ¬ HasAt is_kind moves entries longer

module _ (is_kind : Kind → Bool) (moves : List Move) (entries : List Entry) (cs front directory : List Step) (last : Step)
    (above : IsClearFrom is_kind moves entries cs front) (is : front ≡ directory ++ last ∷ [])
  where
    split_here : cs ≡ directory ++ last ∷ above.under
    split_here = above.split ∙ ap (λ ds. ds ++ above.under) is ∙ append_assoc directory (last ∷ []) above.under

    -- no such entry is at the directory
    pub IsClearFrom-next : ¬ HasAt is_kind moves entries directory → IsClearFrom is_kind moves entries cs directory
    IsClearFrom-next none = record {
      under = last ∷ above.under;
      split = split_here;
      clear = λ longer rest split some long file. elim (cases_lt (length directory) (length longer)) [
        | inl less ↦
            let count : length front ≤ length longer =
            omega (arith, less, ap length is, length-append directory (last ∷ [])) in
            above.clear longer rest split some count file
        | inr no_less ↦
            let same =
            same_front longer directory rest (last ∷ above.under) (sym split ∙ split_here) (omega (arith, long, no_less)) in
            none (subst (HasAt is_kind moves entries) same file)
      ];
    }

    -- such an entry is at the directory
    pub HasAbove-here : directory ≢ [] → HasAt is_kind moves entries directory → HasAbove is_kind moves entries cs
    HasAbove-here some file = record {
      front = directory;
      rest = last ∷ above.under;
      split = split_here;
      some_front = some;
      some_rest = λ none. absurd (let count = ap length none in omega (arith, count));
      there = file;
    }

-- at the end no front is left
pub IsClearFrom-end : (is_kind : Kind → Bool) (moves : List Move) (entries : List Entry) (cs front : List Step) → length front ≤ 1
    → IsClearFrom is_kind moves entries cs front → ¬ HasAbove is_kind moves entries cs
IsClearFrom-end is_kind moves entries cs front short above has =
    let long = some_long has.front has.some_front in
    above.clear has.front has.rest has.split has.some_rest (omega (arith, short, long)) has.there

-- ---- the entry where components lead, after the moves

-- R holds of the elements at each place
pub AllZip-at : {A B : Type 0} (R : A → B → Type 0) (xs : List A) (ys : List B) (k : ℕ) (x : A) (y : B) → AllZip R xs ys
    → k < length xs → R (get_or xs k x) (get_or ys k y)
AllZip-at R [] ys k x y zipped within = absurd (omega (arith, within))
AllZip-at R (a ∷ xs) [] k x y zipped within = absurd zipped
AllZip-at R (a ∷ xs) (b ∷ ys) zero x y zipped within = zipped.0
AllZip-at R (a ∷ xs) (b ∷ ys) (suc k) x y zipped within = AllZip-at R xs ys k x y zipped.1 (omega (arith, within))

module _ (is_kind : Kind → Bool) (moves : List Move) (entries : List Entry) (index : PlaceIndex)
    (known : IndexesAfter moves entries index) (cs : List Step)
  where
    count : length known.after ≡ length entries
    count = AllZip-long (IsAfter moves) entries known.after known.are_after

    count_paths : length (map components known.after) ≡ length entries
    count_paths = length-map known.after components ∙ count

    path_of : (k : ℕ) → k < length entries
        → path_at (map components known.after) k ≡ components (get_or known.after k [])
    path_of k within = get_or-map components known.after k [] [] (omega (arith, within, count))

    is_after : (k : ℕ) (entry : Entry) → k < length entries → get_or entries k entry ≡ entry
        → IsAfter moves entry (get_or known.after k [])
    is_after k entry within is =
        subst (λ e. IsAfter moves e (get_or known.after k [])) is
        (AllZip-at (IsAfter moves) entries known.after k entry [] known.are_after within)

    -- an entry that comes there is where the path of its number leads
    leads_there : (k : ℕ) (entry : Entry) → k < length entries → get_or entries k entry ≡ entry
        → IsAtAfter is_kind moves cs entry → IsSame cs (path_at (map components known.after) k)
    leads_there k entry within is at =
        let (one, one_is, same) = at.there in
        let (other, other_is, normal) = is_after k entry within is in
        let only : other ≡ one =
        IsTreePath-only moves (components entry.path) one other known.apart one_is other_is in
        subst (IsSame cs) (sym (path_of k within))
        (IsSame-trans (IsSame-sym same)
        (subst (λ target. IsSame target (components (get_or known.after k []))) only normal.same))

    -- no path leads there
    pub HasAt-none : IsNoneAt (map components known.after) cs → ¬ HasAt is_kind moves entries cs
    HasAt-none none (k, entry, within, is, at) =
        none k (omega (arith, within, count_paths)) (leads_there k entry within is at)

    module _ (number : ℕ) (entry : Entry) (within : number < length entries) (is : get_or entries number entry ≡ entry)
        (first : IsFirstAt (map components known.after) cs number)
      where
        -- the entry that is there is of the kind
        HasAt-true : is_kind entry.kind ≡ true → HasAt is_kind moves entries cs
        HasAt-true kind =
            let (target, target_is, normal) = is_after number entry within is in
            let there = subst (IsSame cs) (path_of number within) first.same in
            let same = IsSame-trans normal.same (IsSame-sym there) in
            (number, entry, within, is, record { kind = kind; there = (target, target_is, same) })

        -- the entry that is there is of another kind
        HasAt-false : is_kind entry.kind ≡ false → ¬ HasAt is_kind moves entries cs
        HasAt-false kind (k, other, other_within, other_is, at) =
            let leads = leads_there k other other_within other_is at in
            elim (cases_order number k) [
              | inl same ↦
                  let here = ap (λ j. get_or entries j entry) same in
                  let e : entry ≡ other = sym is ∙ here ∙ get_or_default entries k entry other other_within ∙ other_is in
                  true≢false (sym at.kind ∙ ap (λ x. is_kind x.kind) (sym e) ∙ kind)
              | inr (inl less) ↦
                  let k_within : k < length (map components known.after) = omega (arith, other_within, count_paths) in
                  (known.distinct k k_within).first number less (IsSame-trans (IsSame-sym leads) first.same)
              | inr (inr more) ↦ first.first k more leads
            ]

    -- the first path that leads there tells whether an entry of the kind is there
    pub HasAt-number : (number : ℕ) (answer : Bool) → IsFirstAt (map components known.after) cs number
        → ((none : Entry) → number < length entries → answer ≡ is_kind (get_or entries number none).kind)
        → MatchBool answer (HasAt is_kind moves entries cs) (¬ HasAt is_kind moves entries cs)
    HasAt-number number true first is = elim ((slice_get_cases entries number).1) [
      | inl (entry, within, get, same) ↦
          HasAt-true number entry within same first (ap (λ e. is_kind e.kind) (sym same) ∙ sym (is entry within))
      | inr (past, none) ↦ absurd (omega (arith, past, first.within, count_paths))
    ]
    HasAt-number number false first is = elim ((slice_get_cases entries number).1) [
      | inl (entry, within, get, same) ↦
          HasAt-false number entry within same first (ap (λ e. is_kind e.kind) (sym same) ∙ sym (is entry within))
      | inr (past, none) ↦ absurd (omega (arith, past, first.within, count_paths))
    ]
