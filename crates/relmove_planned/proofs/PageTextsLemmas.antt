-- The texts of pages by their paths, page after page.
use Rattle.std.proofs.Common.{◌≡◌, ◌⊎◌, ℕ, zero, suc, List, [], ◌∷◌, ◌++◌, Contains, map, inl, inr, refl, sym, ap, subst, ◌∙◌, arith}
use Rattle.std.specs.BTreeMap.{insert_entry}
use Rattle.std.specs.Cmp.Lexicographic.{slice_cmp}
use Rattle.std.specs.Ordering.{is_eq, match_ordering, nat_cmp}
use Rattle.std.specs.declared.cmp.Ordering.{Ordering}
use Rattle.std.specs.declared.cmp.Ordering.TheVariants.{Less, Equal, Greater}
use Rattle.std.proofs.lemmas.List.Elements.{Contains-append_left, Contains-push, Contains-push_cases}
use Rattle.std.proofs.lemmas.Map.Text.{is_eq-slice_cmp}
use Rattle.std.proofs.lemmas.Slice.Eq.{bytes_eq-Decides}
use denote.Ref.{Bor}
use Rattle.relative_path.specs.Normalizing.{IsNormalTextOf}
use Rattle.relative_path.specs.Steps.{components}
use Rattle.relative_path_links.specs.declared.site.SitePage.{SitePage}
use Rattle.relmove_planned.specs.Plans.{ArePageTexts, HaveTexts}

abbrev Pair : Type 0
Pair = List ℕ × List ℕ

abbrev Entry : Type 0
Entry = Bor (List ℕ) × Bor (List ℕ)

abbrev pairs : List Entry → List Pair
pairs entries = map (λ entry. (entry.0.now, entry.1.now)) entries

first : (pair : Pair) (rest : List Pair) → Contains (pair ∷ rest) pair
first pair rest = (0, omega arith, refl)

later : (head : Pair) (rest : List Pair) (pair : Pair) → Contains rest pair → Contains (head ∷ rest) pair
later head rest pair (k, within, is) = (suc k, omega (arith, within), is)

first_or_later : (head : Pair) (rest : List Pair) (pair : Pair) → Contains (head ∷ rest) pair
    → (head ≡ pair) ⊎ Contains rest pair
first_or_later head rest pair (zero, within, is) = inl is
first_or_later head rest pair (suc k, within, is) = inr (k, omega (arith, within), is)

-- the key has the value, each other pair was there before, and each path has a text still
pub record IsPut (old new : List Pair) (key value : List ℕ) : Type 0 where
  pub has : Contains new (key, value)
  pub only : (pair : Pair) → Contains new pair → Contains old pair ⊎ ((key, value) ≡ pair)
  pub keeps : (path text : List ℕ) → Contains old (path, text) → (other : List ℕ) × Contains new (path, other)

abbrev inserted : List Entry → Bor (List ℕ) → Bor (List ℕ) → List Entry
inserted entries key value = insert_entry (λ one other. slice_cmp nat_cmp one.now other.now) entries key value

pub IsPut-inserted : (entries : List Entry) (key value : Bor (List ℕ))
    → IsPut (pairs entries) (pairs (inserted entries key value)) key.now value.now
IsPut-inserted [] key value = record {
  has = first (key.now, value.now) [];
  only = λ pair has. elim (first_or_later (key.now, value.now) [] pair has) [
    | inl is ↦ inr is
    | inr none ↦ inl none
  ];
  keeps = λ path text none. absurd (let within = none.1 in omega (arith, within));
}
IsPut-inserted (e ∷ es) key value = by (slice_cmp nat_cmp key.now e.0.now) refl (IsPut-inserted es key value)
  where
    head : Pair
    head = (e.0.now, e.1.now)

    by : (o : Ordering) → slice_cmp nat_cmp key.now e.0.now ≡ o
        → IsPut (pairs es) (pairs (inserted es key value)) key.now value.now
        → IsPut (pairs (e ∷ es))
        (pairs (match_ordering o ((key, value) ∷ e ∷ es) ((e.0, value) ∷ es) (e ∷ inserted es key value))) key.now value.now
    by Less is again = record {
      has = first (key.now, value.now) (pairs (e ∷ es));
      only = λ pair has. elim (first_or_later (key.now, value.now) (pairs (e ∷ es)) pair has) [
        | inl same ↦ inr same
        | inr before ↦ inl before
      ];
      keeps = λ path text has. (text, later (key.now, value.now) (pairs (e ∷ es)) (path, text) has);
    }
    by Equal is again =
        let same : key.now ≡ e.0.now =
        (bytes_eq-Decides key.now e.0.now).0 (sym (is_eq-slice_cmp key.now e.0.now) ∙ ap is_eq is) in
        record {
          has = subst (λ path. Contains ((e.0.now, value.now) ∷ pairs es) (path, value.now)) (sym same)
              (first (e.0.now, value.now) (pairs es));
          only = λ pair has. elim (first_or_later (e.0.now, value.now) (pairs es) pair has) [
            | inl here ↦ inr (ap (λ path. (path, value.now)) same ∙ here)
            | inr before ↦ inl (later head (pairs es) pair before)
          ];
          keeps = λ path text has. elim (first_or_later head (pairs es) (path, text) has) [
            | inl here ↦ (
              value.now,
              subst (λ path. Contains ((e.0.now, value.now) ∷ pairs es) (path, value.now))
                  (ap (λ (pair : Pair). pair.0) here) (first (e.0.now, value.now) (pairs es)),
            )
            | inr before ↦ (text, later (e.0.now, value.now) (pairs es) (path, text) before)
          ];
        }
    by Greater is again = record {
      has = later head (pairs (inserted es key value)) (key.now, value.now) again.has;
      only = λ pair has. elim (first_or_later head (pairs (inserted es key value)) pair has) [
        | inl here ↦ inl (subst (λ pair. Contains (head ∷ pairs es) pair) here (first head (pairs es)))
        | inr there ↦ elim (again.only pair there) [
          | inl before ↦ inl (later head (pairs es) pair before)
          | inr same ↦ inr same
        ]
      ];
      keeps = λ path text has. elim (first_or_later head (pairs es) (path, text) has) [
        | inl here ↦ (
          text,
          subst (λ pair. Contains (head ∷ pairs (inserted es key value)) pair) here
              (first head (pairs (inserted es key value))),
        )
        | inr before ↦
            let (other, there) = again.keeps path text before in
            (other, later head (pairs (inserted es key value)) (path, other) there)
      ];
    }

-- with one page more
pub ArePageTexts-next : (pages : List SitePage) (page : SitePage) (old new : List Pair)
    → IsNormalTextOf (components page.path.now) page.path.now → ArePageTexts pages old → IsPut old new page.path.now page.text.now
    → ArePageTexts (pages ++ page ∷ []) new
ArePageTexts-next pages page old new normal are put = λ path text has. elim (put.only (path, text) has) [
  | inl before ↦
      let (other, among, is, same) = are path text before in
      (other, Contains-append_left pages (page ∷ []) other among, is, same)
  | inr is ↦ (
    page,
    Contains-push pages page,
    subst (IsNormalTextOf (components page.path.now)) (ap (λ (pair : Pair). pair.0) is) normal,
    ap (λ (pair : Pair). pair.1) is,
  )
]

pub HaveTexts-next : (pages : List SitePage) (page : SitePage) (old new : List Pair)
    → IsNormalTextOf (components page.path.now) page.path.now → HaveTexts pages old → IsPut old new page.path.now page.text.now
    → HaveTexts (pages ++ page ∷ []) new
HaveTexts-next pages page old new normal have put = λ other among. elim (Contains-push_cases pages page other among) [
  | inl before ↦
      let (path, text, is, there) = have other before in
      let (other_text, still) = put.keeps path text there in (path, other_text, is, still)
  | inr is ↦
      subst (λ (other : SitePage). (path text : List ℕ) × IsNormalTextOf (components other.path.now) path
      × Contains new (path, text)) is (page.path.now, page.text.now, normal, put.has)
]
