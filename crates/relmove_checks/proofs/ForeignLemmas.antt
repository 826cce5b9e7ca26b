-- Directories that hold a name that isn't UTF-8: found by a search in the order of their paths.
use Rattle.std.proofs.Common.{All, Any, ◌≡◌, ℕ, ◌<◌, ◌≤◌, Bool, true, false, true≢false, cond, List, [], ◌∷◌, ◌++◌, Contains, filter, map, length, get_or, HoldsAt, IsTrue, MatchBool, ◌↔◌, inl, inr, refl, sym, ap, subst, ◌∙◌, append-nil, arith}
use Rattle.std.proofs.lemmas.Bool.{cases_lt}
use Rattle.std.proofs.lemmas.List.{get_or-map, get_or_default, length-map}
use Rattle.std.proofs.lemmas.List.Elements.{All-cons, All-contains_itself, All-filter, All-head, All-map, All-tail, filter_passes}
use Rattle.std.proofs.lemmas.List.Sorted.{All-permutation, IsPermutation-sym, ranks_by, searchable_from_sorted, sorted_far}
use Rattle.std.specs.Cmp.{IsTotalOrder}
use Rattle.std.specs.Cmp.Lexicographic.{slice_cmp}
use Rattle.std.specs.List.Sorted.{IsNonDecreasingBy, IsPartitionPoint}
use Rattle.std.specs.Ordering.{is_eq, is_lt, on, ordering_index, ordering_reverse, ordering_then}
use Rattle.std.specs.declared.cmp.Ordering.TheVariants.{Less, Equal, Greater}
use Rattle.std.specs.declared.cmp.Ordering.{Ordering}
use Rattle.relative_path.specs.Comparing.{step_cmp, steps_cmp}
use Rattle.relative_path.specs.ComparingLaws.{step_comparison, step_eq-Decides, steps_comparison, steps_eq-Decides}
use Rattle.relative_path.specs.Prefixing.{StartsWith}
use Rattle.relative_path.specs.RelativePath.{path_components, path_text}
use Rattle.relative_path.specs.Steps.{Step, components}
use Rattle.relative_path.specs.declared.path.RelativePath.{RelativePath}
use Rattle.relmove_checks.specs.declared.entry.Entry.{Entry}
use Rattle.relmove_checks.specs.Trees.{AreForeignPaths, AreInOrder, HoldsForeignName, HoldsNoForeignName, IsForeignBelow, foreign_directories, holds_foreign_name}

-- ---- lists in order

module _ {A : Type 0} {c : A → A → Ordering} (total : IsTotalOrder c) (ties : (a b : A) → c a b ≡ Equal → a ≡ b)
  where
    cmp-self : (a : A) → c a a ≡ Equal
    cmp-self a = by (c a a) (total.antisymm a a)
      where
        by : (o : Ordering) → o ≡ ordering_reverse o → o ≡ Equal
        by Less is = absurd (true≢false (ap is_lt is))
        by Equal is = refl
        by Greater is = absurd (true≢false (sym (ap is_lt is)))

    -- a list isn't before a front of it
    not_before : (front rest : List A) → is_lt (slice_cmp c (front ++ rest) front) ≡ false
    not_before [] [] = refl
    not_before [] (b ∷ rest) = refl
    not_before (a ∷ front) rest = rw (cmp-self a) (not_before front rest)

    -- a list between a front and what begins with it begins with it
    begins_between : (front list rest : List A) → is_lt (slice_cmp c list front) ≡ false
        → is_lt (slice_cmp c (front ++ rest) list) ≡ false → (more : List A) × (list ≡ front ++ more)
    begins_between [] list rest late early = (list, refl)
    begins_between (a ∷ front) [] rest late early = absurd (true≢false late)
    begins_between (a ∷ front) (b ∷ list) rest late early =
        by (c b a) refl late
        (subst (λ o. is_lt (ordering_then o (slice_cmp c (front ++ rest) list)) ≡ false) (total.antisymm a b) early)
        (begins_between front list rest)
      where
        by : (o : Ordering) → c b a ≡ o → is_lt (ordering_then o (slice_cmp c list front)) ≡ false
            → is_lt (ordering_then (ordering_reverse o) (slice_cmp c (front ++ rest) list)) ≡ false
            → (is_lt (slice_cmp c list front) ≡ false → is_lt (slice_cmp c (front ++ rest) list) ≡ false
            → (more : List A) × (list ≡ front ++ more))
            → (more : List A) × (b ∷ list ≡ (a ∷ front) ++ more)
        by Less is late early begins = absurd (true≢false late)
        by Equal is late early begins =
            let (more, split) = begins late early in
            (more, ap (λ x. x ∷ list) (ties b a is) ∙ ap (λ xs. a ∷ xs) split)
        by Greater is late early begins = absurd (true≢false early)

-- ---- a search in paths in order

step_ties : (c d : Step) → step_cmp c d ≡ Equal → c ≡ d
step_ties c d is = (step_eq-Decides c d).0 (step_comparison.agree c d ∙ ap is_eq is)

steps_ties : (cs ds : List Step) → steps_cmp cs ds ≡ Equal → cs ≡ ds
steps_ties cs ds is = (steps_eq-Decides cs ds).0 (steps_comparison.agree cs ds ∙ ap is_eq is)

module _ (paths : List RelativePath) (path : RelativePath) (i : ℕ)
  where
    abbrev Begins : RelativePath → Type 0
    Begins longer = StartsWith (path_components longer) (path_components path)

    -- the path is one of them
    pub Any-equal : i < length paths → HoldsAt (λ other. on path_components steps_cmp other path ≡ Equal) paths i
        → Any Begins paths
    Any-equal within equal = (
      i,
      get_or paths i path,
      within,
      get_or_default paths i (get_or paths i path) path within,
      (
        [],
        steps_ties (path_components (get_or paths i path)) (path_components path) (equal path)
            ∙ sym (append-nil (path_components path)),
      ),
    )

    abbrev IsFound : Type 0
    IsFound =
        IsNonDecreasingBy (λ other. ordering_index (on path_components steps_cmp other path)) paths
        → IsPartitionPoint (λ other. on path_components steps_cmp other path ≡ Less)
        (λ other. on path_components steps_cmp other path ≡ Greater) paths i

    -- the first that isn't before the path doesn't begin with it, or there is none
    All-others : AreInOrder paths → IsFound → (i < length paths → ¬ Begins (get_or paths i path))
        → All (λ longer. ¬ Begins longer) paths
    All-others order found none = λ k d within begins. elim (cases_lt k i) [
      | inl less ↦
          let (rest, is) = begins in
          let late : is_lt (steps_cmp (path_components (get_or paths k d)) (path_components path)) ≡ false =
          rw is (not_before step_comparison.total step_ties (path_components path) rest) in
          true≢false (sym (ap is_lt (point.0 k d (omega arith) less)) ∙ late)
      | inr no_less ↦
          let (rest, is) = begins in
          let i_within : i < length paths = omega (arith, no_less, within) in
          let far =
          sorted_far (λ a b. is_lt (on path_components steps_cmp a b)) (ranks_by steps_comparison.total path_components)
          paths order i k path (omega (arith, no_less)) within in
          let same : get_or paths k path ≡ get_or paths k d = get_or_default paths k path d within in
          let early =
          subst (λ cs. is_lt (steps_cmp cs (path_components (get_or paths i path))) ≡ false)
          (ap path_components same ∙ is) far in
          none i_within
          (begins_between step_comparison.total step_ties (path_components path)
          (path_components (get_or paths i path)) rest
          (ap is_lt (point.1 i path (omega arith) i_within)) early)
    ]
      where
        point : IsPartitionPoint (λ other. on path_components steps_cmp other path ≡ Less)
            (λ other. on path_components steps_cmp other path ≡ Greater) paths i
        point = found (searchable_from_sorted steps_comparison.total path_components paths (path_components path) order)

    -- the first that isn't before the path tells whether one begins with it
    pub MatchBool-first : AreInOrder paths → IsFound → (first : RelativePath) (begins : Bool)
        → (i < length paths) × ((d : RelativePath) → first ≡ get_or paths i d) → (IsTrue begins ↔ Begins first)
        → MatchBool begins (Any Begins paths) (All (λ longer. ¬ Begins longer) paths)
    MatchBool-first order found first true there tells =
        (i, first, there.0, sym (there.1 first), tells.0 refl)
    MatchBool-first order found first false there tells =
        All-others order found
        (λ within begins. true≢false (sym (tells.1 (subst Begins (sym (there.1 path)) begins))))

    -- each is before the path
    pub All-before : AreInOrder paths → IsFound → length paths ≤ i → All (λ longer. ¬ Begins longer) paths
    All-before order found past = All-others order found (λ within. absurd (omega (arith, past, within)))

-- ---- the paths of the directories

module _ {X : Type 0} (P : X → Type 0)
  where
    first_and_rest : (b : Bool) (x : X) (us : List X) → (b ≡ false → P x) → All P (cond b (x ∷ us) us) → P x × All P us
    first_and_rest true x us other all = (All-head P x us all, All-tail P x us all)
    first_and_rest false x us other all = (other refl, all)

    -- what holds of the elements that pass and of those that don't holds of all
    All-from_filter : (p : X → Bool) (xs : List X) → ((x : X) → p x ≡ false → P x) → All P (filter p xs) → All P xs
    All-from_filter p [] other all = all
    All-from_filter p (x ∷ xs) other all =
        let both = first_and_rest (p x) x (filter p xs) (other x) all in
        All-cons P x xs both.0 (All-from_filter p xs other both.1)

    All-unmap : {Y : Type 0} (f : Y → X) (ys : List Y) → All P (map f ys) → All (λ y. P (f y)) ys
    All-unmap f ys all = λ k d within.
        subst P (get_or-map f ys k d (f d) within) (all k (f d) (rw (length-map ys f) within))

module _ (entries : List Entry) (paths : List RelativePath) (are : AreForeignPaths entries paths) (cs : List Step)
  where
    abbrev path_of : Entry → List ℕ
    path_of entry = entry.path

    -- the text is the path of an entry that holds such a name
    abbrev IsOfEntry : List ℕ → Type 0
    IsOfEntry text = (entry : Entry) × Contains entries entry × (holds_foreign_name entry.kind ≡ true) × (text ≡ entry.path)

    all_of_entries : All IsOfEntry (map path_text paths)
    all_of_entries =
        All-permutation IsOfEntry (map path_of (foreign_directories entries)) (map path_text paths) are
        (All-map IsOfEntry path_of (foreign_directories entries)
        (λ k d within. (
          get_or (foreign_directories entries) k d,
          All-filter (λ (entry : Entry). holds_foreign_name entry.kind) (Contains entries) entries (All-contains_itself entries) k d
              within,
          filter_passes (λ (entry : Entry). holds_foreign_name entry.kind) entries k d within,
          refl,
        )))

    pub HoldsForeignName-paths : Any (λ longer. StartsWith (path_components longer) cs) paths → HoldsForeignName entries cs
    HoldsForeignName-paths (k, path, within, is, begins) =
        let (entry, (e, inside, here), foreign, path_is) = All-unmap IsOfEntry path_text paths all_of_entries k path within in (
          e,
          entry,
          inside,
          here,
          record {
            foreign = foreign;
            below = subst (λ text. StartsWith (components text) cs) (ap path_text (sym is) ∙ path_is) begins;
          },
        )

    pub HoldsNoForeignName-paths : All (λ longer. ¬ StartsWith (path_components longer) cs) paths
        → HoldsNoForeignName entries cs
    HoldsNoForeignName-paths none =
        let texts : All (λ text. ¬ StartsWith (components text) cs) (map path_text paths) =
        All-map (λ text. ¬ StartsWith (components text) cs) path_text paths none in
        All-from_filter (λ entry. ¬ IsForeignBelow cs entry) (λ (entry : Entry). holds_foreign_name entry.kind) entries
        (λ entry passes_not is. true≢false (sym is.foreign ∙ passes_not))
        (λ k d within is.
        All-unmap (λ text. ¬ StartsWith (components text) cs) path_of (foreign_directories entries)
        (All-permutation (λ text. ¬ StartsWith (components text) cs) (map path_text paths)
        (map path_of (foreign_directories entries))
        (IsPermutation-sym (map path_of (foreign_directories entries)) (map path_text paths) are) texts) k d within is.below)
