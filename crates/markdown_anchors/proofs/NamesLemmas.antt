-- The names of headings so far, and the map that has them.
use Rattle.std.proofs.Common.{◌≡◌, ℕ, ◌+◌, ◌-◌, ◌≤◌, ◌<◌, Bool, true, false, ◌||◌, cond, List, [], ◌∷◌, ◌++◌, length, take, get_or, String, BTreeMap, Some, None, Option, unwrap_or, is_some, refl, sym, ap, ◌∙◌, subst, arith}
use Rattle.std.proofs.lemmas.Bool.Decides.{nat_tests}
use Rattle.std.proofs.lemmas.List.{length-append, take-append-le, take_all, get_or_append_left, get_or-append_right}
use Rattle.std.proofs.lemmas.List.Folds.{list_any-append}
use Rattle.std.specs.BTreeMap.{get_by_text, IsEmpty}
use Rattle.std.specs.Bool.{nat_lt}
use Rattle.std.specs.Map.{update}
use Rattle.std.specs.Str.{bytes_eq}
use Rattle.std.specs.Cmp.Lexicographic.{bytes_decides, nat_list_eq_equiv}
use Rattle.markdown_anchors.specs.Names.{numbered, is_among, IsFirstFree, AreNamesOf}
use Rattle.markdown_anchors.specs.Taken.{is_taken, next_number, IsTaking, IsNextFree, AddsFirstFree}

-- a text is equal to itself
same : (s : List ℕ) → bytes_eq s s ≡ true
same s = nat_list_eq_equiv.refl s

-- a number is below another, or not
pub below_or_not : {P : Type 0} (n m : ℕ) → (n < m → P) → (m ≤ n → P) → P
below_or_not {P} n m below above = of (nat_lt n m) refl where
  of : (t : Bool) → nat_lt n m ≡ t → P
  of true is = below (grind (arith, nat_tests, is))
  of false is = above (grind (arith, nat_tests, is))

module _ {Y : Type 0} where
  -- the first free name of a slug, and the map after the slug's number and the name are set
  module _ (old mid new : BTreeMap (String Y) ℕ) (slug : List ℕ) (from number : ℕ)
      (taking : IsTaking old) (start : from ≤ next_number (get_by_text old slug)) (next : IsNextFree old slug from number)
      (numbers : (v : List ℕ) → get_by_text mid v ≡ update bytes_eq (get_by_text old) slug (Some number) v)
      (adds : (v : List ℕ) → get_by_text new v ≡ update bytes_eq (get_by_text mid) (numbered slug number) (Some 0) v) where
    abbrev name : List ℕ
    name = numbered slug number

    before_start : (n : ℕ) (last : Option ℕ) → get_by_text old slug ≡ last → from ≤ next_number last → n < from
        → is_taken old (numbered slug n) ≡ true
    before_start n None is begins less = absurd (omega (arith, begins, less))
    before_start n (Some last) is begins less = taking slug last n is (omega (arith, begins, less))

    is_below : (n : ℕ) → n < number → is_taken old (numbered slug n) ≡ true
    is_below n less =
        below_or_not n from (λ early. before_start n (get_by_text old slug) refl start early) (λ late. next.others n late less)

    is_first : IsFirstFree (is_taken old) slug name
    is_first = record { number = number; is = refl; free = next.free; first = is_below }

    finds : (v : List ℕ) → get_by_text new v
        ≡ cond (bytes_eq name v) (Some 0) (cond (bytes_eq slug v) (Some number) (get_by_text old v))
    finds v = adds v ∙ ap (λ o. cond (bytes_eq name v) (Some 0) o) (numbers v)

    slug_taken : bytes_eq name slug ≡ false → is_taken old slug ≡ true
    slug_taken other = below_or_not 0 number (is_below 0) none where
      none : number ≤ 0 → is_taken old slug ≡ true
      none least =
          let zero : number ≡ 0 = omega (arith, least) in
          let is_slug : bytes_eq name slug ≡ true = ap (λ n. bytes_eq (numbered slug n) slug) zero ∙ same slug in
          absurd (cc (is_slug, other))

    adds_name : (v : List ℕ) → is_taken new v ≡ (bytes_eq v name || is_taken old v)
    adds_name v =
        ap is_some (finds v) ∙ of (bytes_eq name v) (bytes_eq slug v) refl refl
        ∙ ap (λ t. t || is_taken old v) (nat_list_eq_equiv.symm name v) where
          of : (t u : Bool) → bytes_eq name v ≡ t → bytes_eq slug v ≡ u
              → is_some (cond t (Some 0) (cond u (Some number) (get_by_text old v))) ≡ (t || is_taken old v)
          of true u is_name is_slug = refl
          of false false is_name is_slug = refl
          of false true is_name is_slug =
              let slug_is = (bytes_decides slug v).0 is_slug in
              let other = subst (λ w. bytes_eq name w ≡ false) (sym slug_is) is_name in
              sym (ap (is_taken old) (sym slug_is) ∙ slug_taken other)

    keeps : (v : List ℕ) → is_taken old v ≡ true → is_taken new v ≡ true
    keeps v was = adds_name v ∙ ap (λ t. bytes_eq v name || t) was ∙ of (bytes_eq v name) where
      of : (t : Bool) → (t || true) ≡ true
      of true = refl
      of false = refl

    has_name : is_taken new name ≡ true
    has_name = adds_name name ∙ ap (λ t. t || is_taken old name) (same name)

    taking_new : IsTaking new
    taking_new v last n is most = of (bytes_eq name v) (bytes_eq slug v) refl refl (sym (finds v) ∙ is) where
      of : (t u : Bool) → bytes_eq name v ≡ t → bytes_eq slug v ≡ u
          → cond t (Some 0) (cond u (Some number) (get_by_text old v)) ≡ Some last → is_taken new (numbered v n) ≡ true
      of true u is_name is_slug was =
          let zero : n ≡ 0 = omega (arith, ap (λ o. unwrap_or o 0) was, most) in
          ap (λ m. is_taken new (numbered v m)) zero ∙ ap (is_taken new) (sym ((bytes_decides name v).0 is_name)) ∙ has_name
      of false true is_name is_slug was =
          let number_is = ap (λ o. unwrap_or o 0) was in
          ap (λ s. is_taken new (numbered s n)) (sym ((bytes_decides slug v).0 is_slug))
          ∙ below_or_not n number (λ less. keeps (numbered slug n) (is_below n less))
          (λ more. ap (λ m. is_taken new (numbered slug m)) (omega (arith, number_is, most, more)) ∙ has_name)
      of false false is_name is_slug was = keeps (numbered v n) (taking v last n was most)

    pub AddsFirstFree-set : AddsFirstFree old new slug name
    AddsFirstFree-set = record { first = is_first; adds = adds_name; taking = taking_new }

  -- these slugs have these names, and the map has these names and no others
  pub record AreSoFar (slugs names : List (List ℕ)) (taken : BTreeMap (String Y) ℕ) : Type 0 where
    pub named : AreNamesOf slugs names
    pub has : (name : List ℕ) → is_taken taken name ≡ is_among names name
    pub taking : IsTaking taken

  pub AreSoFar-start : (taken : BTreeMap (String Y) ℕ) → IsEmpty taken → AreSoFar [] [] taken
  AreSoFar-start taken empty = record {
    named = record { count = refl; each = λ k less. absurd (omega (arith, less)) };
    has = λ name. rw empty refl;
    taking = λ slug last n is most. absurd (none last (rw empty at is));
  }
    where
      none : (last : ℕ) → None ≡ Some last → ⊥
      none last is = cc is

  module _ (slugs names : List (List ℕ)) (slug name : List ℕ) (old new : BTreeMap (String Y) ℕ)
      (so_far : AreSoFar slugs names old) (added : AddsFirstFree old new slug name) where
    is_first_among : IsFirstFree (is_among names) slug name
    is_first_among = record {
      number = added.first.number;
      is = added.first.is;
      free = sym (so_far.has name) ∙ added.first.free;
      first = λ n less. sym (so_far.has (numbered slug n)) ∙ added.first.first n less;
    }

    each_next : (k : ℕ) → k < length (slugs ++ (slug ∷ []))
        → IsFirstFree (is_among (take k (names ++ (name ∷ [])))) (get_or (slugs ++ (slug ∷ [])) k []) (get_or (names ++ (name ∷ [])) k [])
    each_next k less = below_or_not k (length slugs) before last where
      before : k < length slugs
          → IsFirstFree (is_among (take k (names ++ (name ∷ [])))) (get_or (slugs ++ (slug ∷ [])) k []) (get_or (names ++ (name ∷ [])) k [])
      before early =
          rw (
            take-append-le k names (name ∷ []) (omega (arith, early, so_far.named.count)),
            get_or_append_left slugs (slug ∷ []) [] k early,
            get_or_append_left names (name ∷ []) [] k (omega (arith, early, so_far.named.count)),
          )
          (so_far.named.each k early)

      last : length slugs ≤ k
          → IsFirstFree (is_among (take k (names ++ (name ∷ [])))) (get_or (slugs ++ (slug ∷ [])) k []) (get_or (names ++ (name ∷ [])) k [])
      last late =
          let is : k ≡ length slugs = omega (arith, late, less, length-append slugs (slug ∷ [])) in
          let none : k - length slugs ≡ 0 = omega (arith, is) in
          let none_of_names : k - length names ≡ 0 = omega (arith, is, so_far.named.count) in
          rw (
            take-append-le k names (name ∷ []) (omega (arith, is, so_far.named.count)),
            take_all k names (omega (arith, is, so_far.named.count)),
            get_or-append_right slugs (slug ∷ []) (length slugs) k [] refl late,
            get_or-append_right names (name ∷ []) (length names) k [] refl (omega (arith, is, so_far.named.count)),
            none,
            none_of_names,
          )
          is_first_among

    has_next : (v : List ℕ) → is_taken new v ≡ is_among (names ++ (name ∷ [])) v
    has_next v =
        added.adds v ∙ ap (λ t. bytes_eq v name || t) (so_far.has v)
        ∙ of (bytes_eq v name) (is_among names v) ∙ sym (list_any-append (bytes_eq v) names (name ∷ [])) where
          of : (t u : Bool) → (t || u) ≡ (u || (t || false))
          of true true = refl
          of true false = refl
          of false true = refl
          of false false = refl

    pub AreSoFar-next : AreSoFar (slugs ++ (slug ∷ [])) (names ++ (name ∷ [])) new
    AreSoFar-next = record {
      named = record {
        count = length-append names (name ∷ []) ∙ ap (λ n. n + 1) so_far.named.count ∙ sym (length-append slugs (slug ∷ []));
        each = each_next;
      };
      has = has_next;
      taking = added.taking;
    }
