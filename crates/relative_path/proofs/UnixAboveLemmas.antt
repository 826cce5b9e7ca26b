-- Going up from a platform path.
use Rattle.std.proofs.Common.{◌≡◌, ◌≢◌, ◌⊎◌, ℕ, ◌-◌, ◌<◌, ◌≤◌, Bool, true, false, List, [], ◌∷◌, ◌++◌, length, get_or, take, drop, sym, refl, ap, ◌∙◌, subst, inl, inr, append_assoc, append-nil, arith, length-append, take-append-drop, length-drop, take_at, eqb-true, true≢false, Option, Some, None, is_some, zero, suc, ⊎_elim}
use Rattle.std.proofs.lemmas.Bool.{cases_lt}
use Rattle.std.proofs.lemmas.List.{append_cancel_left}
use Rattle.relative_path.specs.Steps.{Step, slash, step_text, classed, components}
use Rattle.relative_path.specs.Editing.{is_cur, without_cur_dirs}
use Rattle.relative_path.specs.declared.component.Component.{Component}
use Rattle.relative_path.specs.Components.{step_of, TakesLast}
use Rattle.relative_path.specs.Unix.{has_root, counted, unix_components, but_last, IsAbove}
use Rattle.relative_path.proofs.StepsLemmas.{HasNoSlash, HasNoSlash-append, components-nil, components-slash, components_whole, step_text-classed}
use Rattle.relative_path.proofs.SlicesLemmas.{IsPrefix, IsPrefix-append, IsPrefix-trans, IsPrefix-shortest, IsShortestPrefix-from, take-IsPrefix}
use Rattle.relative_path.proofs.UnixComponentsLemmas.{counted-append, after, LosesUncounted, LastCounts, counted_first, counted_alone, but_last-push}
use Rattle.relative_path.proofs.ListsLemmas.{last_view, head_same}
use Rattle.relative_path.proofs.SlashesLemmas.{components-after, components-before}
use Rattle.relative_path.proofs.EditingLemmas.{long_other}

-- ---- a text in two parts

-- the rest adds components to those of the front, or makes the last of them longer
abbrev Continues : List ℕ → List ℕ → Type 0
Continues front rest =
    ((ds : List Step) × (components (front ++ rest) ≡ components front ++ ds))
    ⊎ ((cs : List Step) × (ds : List Step) × (x : List ℕ) × (y : List ℕ) × (0 < length x) × (0 < length y)
    × (components front ≡ cs ++ classed x ∷ []) × (components (front ++ rest) ≡ cs ++ classed (x ++ y) ∷ ds))

continues : (front rest : List ℕ) → Continues front rest
continues front rest =
    let before = components-before front in
    let later = components-after rest in
    joined before.0 later.0 before.1 later.1 before.2 later.2
    (ap components (sym (append-nil front)) ∙ before.3 [] ∙ ap (λ t. before.0 ++ components t) (append-nil before.1))
    (before.3 rest ∙ ap (λ cs. before.0 ++ cs) (later.3 before.1))
  where
    joined : (cs ds : List Step) (x y : List ℕ) → HasNoSlash x → HasNoSlash y → components front ≡ cs ++ components x
        → components (front ++ rest) ≡ cs ++ (components (x ++ y) ++ ds) → Continues front rest
    joined cs ds [] y none none' first whole =
        let first : components front ≡ cs = first ∙ ap (λ es. cs ++ es) components-nil ∙ append-nil cs in
        inl (components y ++ ds, whole ∙ ap (λ es. es ++ (components y ++ ds)) (sym first))
    joined cs ds (b ∷ bs) [] none none' first whole =
        inl (
          ds,
          whole ∙ ap (λ t. cs ++ (components t ++ ds)) (append-nil (b ∷ bs))
              ∙ sym (append_assoc cs (components (b ∷ bs)) ds) ∙ ap (λ es. es ++ ds) (sym first),
        )
    joined cs ds (b ∷ bs) (d ∷ rest') none none' first whole =
        let one = components_whole (b ∷ bs) (omega arith) none in
        let longer =
        components_whole ((b ∷ bs) ++ d ∷ rest') (omega arith) (HasNoSlash-append (b ∷ bs) (d ∷ rest') none none') in
        inr (
          cs,
          ds,
          b ∷ bs,
          d ∷ rest',
          omega arith,
          omega arith,
          first ∙ ap
              (λ es. cs ++ es) one,
          whole ∙ ap (λ es. cs ++ (es ++ ds)) longer,
        )

-- ---- a shorter prefix has other components

shorter-counted : (rooted : Bool) (front rest : List ℕ) → 0 < length rest
    → get_or (front ++ rest) (length (front ++ rest) - 1) 0 ≢ slash → LastCounts rooted (components (front ++ rest))
    → counted rooted (components front) ≢ counted rooted (components (front ++ rest))
shorter-counted rooted front rest nonempty end last = λ same. elim (continues front rest) [
  | inl (ds, whole) ↦ added ds whole same (last_view ds)
  | inr (cs, ds, x, y, some, some', first, whole) ↦
      absurd (longer (after rooted cs) ds x y some some' (append_cancel_left (counted rooted cs) _ _ (sym
      (counted-append rooted cs (classed x ∷ [])) ∙ ap (counted rooted) (sym first) ∙ same ∙ ap (counted rooted) whole
      ∙ counted-append rooted cs (classed (x ++ y) ∷ ds))))
]
  where
    longer : (rooted' : Bool) (ds : List Step) (x y : List ℕ) → 0 < length x → 0 < length y
        → counted rooted' (classed x ∷ []) ≢ counted rooted' (classed (x ++ y) ∷ ds)
    longer rooted' ds x y some some' same =
        let long : is_cur (classed (x ++ y)) ≡ false =
        long_other (classed (x ++ y)) (omega (arith, ap length (step_text-classed (x ++ y)), length-append x y)) in
        let kept : counted rooted' (classed x ∷ []) ≡ classed (x ++ y) ∷ without_cur_dirs ds =
        same ∙ counted_first rooted' (classed (x ++ y)) ds long in
        ⊎_elim
        (λ none. absurd (omega (arith, ap length (sym none ∙ kept))))
        (λ one. let texts : x ≡ x ++ y = sym (step_text-classed x) ∙ ap step_text (head_same (sym one ∙ kept))
        ∙ step_text-classed (x ++ y) in absurd (omega (arith, ap length texts, length-append x y)))
        (counted_alone rooted' (classed x))

    added : (ds : List Step) → components (front ++ rest) ≡ components front ++ ds
        → counted rooted (components front) ≡ counted rooted (components (front ++ rest))
        → (ds ≡ []) ⊎ ((es : List Step) × (c : Step) × (ds ≡ es ++ c ∷ [])) → ⊥
    added ds whole same (inl none) =
        let shortest =
        IsShortestPrefix-from
        (subst (λ t. IsPrefix t (front ++ rest)) (append-nil (front ++ rest)) (IsPrefix-append (front ++ rest) [])) refl end in
        let at =
        shortest.shortest (length front)
        (ap components (take_at front rest (length front) refl) ∙ sym (whole ∙ ap (λ es. components front ++ es) none
        ∙ append-nil (components front))) in
        omega (arith, length-append front rest)
    added ds whole same (inr (es, c, split)) =
        let whole =
        whole ∙ ap (λ fs. components front ++ fs) split ∙ sym (append_assoc (components front) es (c ∷ [])) in
        let some : components (front ++ rest) ≢ [] =
        λ none. omega (arith, ap length (sym whole ∙ none), length-append (components front ++ es) (c ∷ [])) in
        let fewer = rw (whole, but_last-push (components front ++ es) c) at (last some) in
        omega (
          arith,
          ap length same,
          ap (λ fs. length (counted rooted fs)) whole,
          ap length (counted-append rooted (components front) es),
          length-append (counted rooted (components front)) (counted (after rooted (components front)) es),
        )

-- ---- going up

has_root-prefix : (text : List ℕ) (b : ℕ) (bs : List ℕ) → IsPrefix text (b ∷ bs) → has_root (b ∷ bs) ≡ has_root text
has_root-prefix [] b bs h = ap has_root h.front
has_root-prefix (t ∷ ts) b bs h = ap has_root h.front

-- only what doesn't count was dropped from the end of the text, and the last component that is left counts
abbrev pub EndsInCounted : Bool → List ℕ → List ℕ → Type 0
EndsInCounted rooted text left = LosesUncounted rooted text left × LastCounts rooted (components left)

-- without its last component, which counts, a text has all of its counted components but the last
counted-front : (rooted : Bool) (cs : List Step) (c : Step) → LastCounts rooted (cs ++ c ∷ [])
    → (counted rooted cs ≡ but_last (counted rooted (cs ++ c ∷ []))) × (counted rooted (cs ++ c ∷ []) ≢ [])
counted-front rooted cs c last =
    let some : cs ++ c ∷ [] ≢ [] = λ none. omega (arith, ap length none, length-append cs (c ∷ [])) in
    let fewer = rw (but_last-push cs c) at (last some) in
    let whole = counted-append rooted cs (c ∷ []) in
    ⊎_elim
    (λ none. absurd (omega (
      arith,
      ap length whole,
      ap length none,
      length-append (counted rooted cs) (counted (after rooted cs) (c ∷ [])),
    )))
    (λ one. (
      sym (ap but_last (whole ∙ ap (λ ds. counted rooted cs ++ ds) one) ∙ but_last-push (counted rooted cs) c),
      λ none. omega (arith, ap length none),
    ))
    (counted_alone (after rooted cs) c)

-- the shortest prefix, unless that is the root alone
shortest-trimmed : (text p : List ℕ) → IsPrefix text p → get_or p (length p - 1) 0 ≢ slash
    → LastCounts (has_root text) (components p) → has_root p ≡ has_root text → (k : ℕ)
    → has_root (take k text) ≡ has_root text → unix_components (take k text) ≡ unix_components p → length p ≤ k
shortest-trimmed text p prefix end last root k root_k same =
    ⊎_elim (λ short. absurd (shorter short)) (λ long. long) (cases_lt k (length p))
  where
    shorter : k < length p → ⊥
    shorter short =
        let front = take-IsPrefix prefix k (omega arith) in
        let whole = take-append-drop k p in
        let left : 0 < length (drop k p) = omega (arith, length-drop k p) in
        let same_front =
        ap (λ t. counted (has_root text) (components t)) front
        ∙ ap (λ r. counted r (components (take k text))) (sym root_k) ∙ same
        ∙ ap (λ r. counted r (components p)) root in
        shorter-counted (has_root text) (take k p) (drop k p) left
        (subst (λ t. get_or t (length t - 1) 0 ≢ slash) (sym whole) end)
        (subst (λ t. LastCounts (has_root text) (components t)) (sym whole) last)
        (same_front ∙ ap (λ t. counted (has_root text) (components t)) (sym whole))

pub EndsInCounted-from : {rooted rooted' : Bool} {text text' left : List ℕ} → rooted ≡ rooted' → text ≡ text'
    → left ≡ take (length left) text → get_or left (length left - 1) 0 ≢ slash
    → counted rooted (components left) ≡ counted rooted (components text) → LastCounts rooted (components left)
    → EndsInCounted rooted' text' left
EndsInCounted-from roots texts front end same last =
    rw (← roots, ← texts) (record { prefix = record { front = front }; end = end; same = same }, last)

module _ (text end front parent : List ℕ) (taken : Option Component) (some : is_some taken ≡ true)
    (trimmed : EndsInCounted (has_root text) text end) (takes : TakesLast end taken front)
    (trimmed' : EndsInCounted (has_root text) front parent) where
  prefix : IsPrefix text parent
  prefix = IsPrefix-trans trimmed.0.prefix (IsPrefix-trans (IsPrefix-shortest takes.1) trimmed'.0.prefix)

  fronts : (counted (has_root text) (components front) ≡ but_last (unix_components text)) × (unix_components text ≢ [])
  fronts = parts taken some takes
    where
      parts : (o : Option Component) → is_some o ≡ true → TakesLast end o front
          → (counted (has_root text) (components front) ≡ but_last (unix_components text)) × (unix_components text ≢ [])
      parts None some takes = absurd (true≢false (sym some))
      parts (Some c) some (last, _) =
          let whole : counted (has_root text) (components front ++ step_of c ∷ []) ≡ unix_components text =
          ap (counted (has_root text)) (sym last) ∙ trimmed.0.same in
          let counts =
          counted-front (has_root text) (components front) (step_of c)
          (subst (LastCounts (has_root text)) last trimmed.1) in
          (counts.0 ∙ ap but_last whole, λ none. counts.1 (whole ∙ none))

  pub IsAbove-parent : (has_root text ≡ false) ⊎ (length parent ≢ 0) → IsAbove text parent
  IsAbove-parent some_root = record {
    at_top = λ none. absurd (fronts.1 none);
    prefix = prefix.front;
    same_root = root;
    components = ap (λ r. counted r (components parent)) root ∙ trimmed'.0.same ∙ fronts.0;
    shortest = λ _. shortest-trimmed text parent prefix trimmed'.0.end trimmed'.1 root;
  }
    where
      same_root : (p : List ℕ) → IsPrefix text p → (has_root text ≡ false) ⊎ (length p ≢ 0)
          → has_root p ≡ has_root text
      same_root [] h (inl unrooted) = sym unrooted
      same_root [] h (inr some) = absurd (some refl)
      same_root (b ∷ bs) h _ = has_root-prefix text b bs h

      root : has_root parent ≡ has_root text
      root = same_root parent prefix some_root

  -- if nothing else is left, the root is
  pub IsAbove-root : has_root text ≡ true → parent ≡ [] → IsAbove text (slash ∷ [])
  IsAbove-root rooted empty = record {
    at_top = λ none. absurd (fronts.1 none);
    prefix = root text rooted;
    same_root = sym rooted;
    components =
        ap (counted true) (components-slash [] ∙ ap components (sym empty))
        ∙ ap (λ r. counted r (components parent)) (sym rooted) ∙ trimmed'.0.same ∙ fronts.0;
    shortest =
        λ _ k root _. ⊎_elim (λ none. absurd (true≢false (sym rooted ∙ sym root ∙ ap (λ j. has_root (take j text)) none)))
        (λ some. some) (cases_zero k);
  }
    where
      root : (bs : List ℕ) → has_root bs ≡ true → slash ∷ [] ≡ take 1 bs
      root [] rooted = absurd (true≢false (sym rooted))
      root (b ∷ bs) rooted = ap (λ x. x ∷ []) (sym (eqb-true b slash rooted))

      cases_zero : (k : ℕ) → (k ≡ 0) ⊎ (1 ≤ k)
      cases_zero zero = inl refl
      cases_zero (suc k) = inr (omega arith)
