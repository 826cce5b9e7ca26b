-- The components that count under the Unix rules, and texts that are cut after them.
use Rattle.std.proofs.Common.{◌≡◌, ◌≢◌, ◌⊎◌, ℕ, suc, ◌+◌, ◌-◌, ◌<◌, Bool, true, false, not, List, [], ◌∷◌, ◌++◌, length, get_or, drop, sym, refl, ap, ap₂, ◌∙◌, inl, inr, append-nil, arith, length-append, Option, Some, None, true≢false, take_at, ◌≤◌, take, ⊎_elim}
use Rattle.std.specs.Option.{option_eq}
use Rattle.std.specs.Ordering.{on}
use Rattle.std.proofs.lemmas.List.{nil_from_length}
use Rattle.std.proofs.lemmas.List.Elements.{filter-append}
use Rattle.std.proofs.lemmas.Bool.{cond-true, cases_Bool, cond-false}
use Rattle.relative_path.specs.Steps.{Step, cur, up, name, slash, components, SpellThemselves, slashed_len}
use Rattle.relative_path.specs.Comparing.{step_eq}
use Rattle.relative_path.specs.ComparingLaws.{step_eq-Decides}
use Rattle.relative_path.specs.Editing.{is_cur, without_cur_dirs}
use Rattle.relative_path.specs.Components.{step_of, TakesLast}
use Rattle.relative_path.specs.Slices.{IsShortestPrefix}
use Rattle.relative_path.specs.declared.component.Component.{Component}
use Rattle.relative_path.specs.declared.component.Component.TheVariants.{CurDir}
use Rattle.relative_path.specs.Unix.{counted, but_last, shared_len, without_shared, has_root, without_inner_cur_dirs, unix_components}
use Rattle.relative_path.proofs.StepsLemmas.{components-nil, SpellThemselves-components, SpellThemselves-filter}
use Rattle.relative_path.proofs.SlicesLemmas.{IsPrefix, IsPrefix-trans, IsPrefix-shortest, end-IsShortestPrefix}
use Rattle.relative_path.proofs.SpellingLemmas.{length_le_slashed_len, slashed_len-filter, slashed_len-components}
use Rattle.relative_path.proofs.EditingLemmas.{without_cur_dirs-twice}

-- ---- what two lists begin with

without_shared_both : (cs ds : List Step) (c d : Step) → step_eq c d ≡ true
    → without_shared (c ∷ cs) (d ∷ ds) ≡ without_shared cs ds
without_shared_both cs ds c d same =
    let one_more : shared_len (c ∷ cs) (d ∷ ds) ≡ suc (shared_len cs ds) =
    omega (arith, cond-true (step_eq c d) (1 + shared_len cs ds) 0 same) in
    ap (λ n. (drop n (c ∷ cs), drop n (d ∷ ds))) one_more

pub without_shared-both : (cs ds cs' ds' : List Step) (c d : Step) → cs ≡ c ∷ cs' → ds ≡ d ∷ ds' → c ≡ d
    → without_shared cs' ds' ≡ without_shared cs ds
without_shared-both cs ds cs' ds' c d first second same =
    sym (ap₂ without_shared first second ∙ without_shared_both cs' ds' c d ((step_eq-Decides c d).1 same))

pub take-shared : (cs ds : List Step) → take (shared_len cs ds) cs ≡ take (shared_len cs ds) ds
take-shared [] [] = refl
take-shared [] (d ∷ ds) = refl
take-shared (c ∷ cs) [] = refl
take-shared (c ∷ cs) (d ∷ ds) = ⊎_elim
    (λ e.
    let longer : shared_len (c ∷ cs) (d ∷ ds) ≡ suc (shared_len cs ds) =
    omega (arith, cond-true (step_eq c d) (1 + shared_len cs ds) 0 e) in
    rw longer (ap₂ (λ x xs. x ∷ xs) ((step_eq-Decides c d).0 e) (take-shared cs ds)))
    (λ e. rw (cond-false (step_eq c d) (1 + shared_len cs ds) 0 e) refl)
    (cases_Bool (step_eq c d))

-- ---- the components that count

-- whether a `.` after these components doesn't count
abbrev pub after : Bool → List Step → Bool
after rooted [] = rooted
after rooted (c ∷ cs) = true

pub counted-append : (rooted : Bool) (cs ds : List Step)
    → counted rooted (cs ++ ds) ≡ counted rooted cs ++ counted (after rooted cs) ds
counted-append true [] ds = refl
counted-append true (c ∷ cs) ds = filter-append (λ c. not (is_cur c)) (c ∷ cs) ds
counted-append false [] ds = refl
counted-append false (c ∷ cs) ds = ap (λ x. c ∷ x) (filter-append (λ c. not (is_cur c)) cs ds)

counted_one : (rooted : Bool) (c : Step) → is_cur c ≡ false → counted rooted (c ∷ []) ≡ c ∷ []
counted_one true c other = cond-true (not (is_cur c)) (c ∷ []) [] (ap not other)
counted_one false c other = refl

pub but_last-push : (cs : List Step) (c : Step) → but_last (cs ++ c ∷ []) ≡ cs
but_last-push cs c = take_at cs (c ∷ []) (length (cs ++ c ∷ []) - 1) (omega (arith, length-append cs (c ∷ [])))

-- a single component counts or doesn't
pub counted_alone : (rooted : Bool) (c : Step) → (counted rooted (c ∷ []) ≡ []) ⊎ (counted rooted (c ∷ []) ≡ c ∷ [])
counted_alone true cur = inl refl
counted_alone true up = inr refl
counted_alone true (name n) = inr refl
counted_alone false c = inr refl

-- a component other than `.` counts
pub counted_first : (rooted : Bool) (c : Step) (cs : List Step) → is_cur c ≡ false
    → counted rooted (c ∷ cs) ≡ c ∷ without_cur_dirs cs
counted_first true cur cs other = absurd (true≢false other)
counted_first true up cs other = refl
counted_first true (name n) cs other = refl
counted_first false c cs other = refl

pub SpellThemselves-counted : (rooted : Bool) (text : List ℕ) → SpellThemselves (counted rooted (components text))
SpellThemselves-counted rooted text = those rooted (components text) (SpellThemselves-components text)
  where
    those : (rooted : Bool) (cs : List Step) → SpellThemselves cs → SpellThemselves (counted rooted cs)
    those true cs proper = SpellThemselves-filter (λ d. not (is_cur d)) cs proper
    those false [] proper = tt
    those false (c ∷ cs) proper = (proper.0, SpellThemselves-filter (λ d. not (is_cur d)) cs proper.1)

slashed_len-counted : (rooted : Bool) (cs : List Step) → slashed_len (counted rooted cs) ≤ slashed_len cs
slashed_len-counted true cs = slashed_len-filter (λ c. not (is_cur c)) cs
slashed_len-counted false [] = omega arith
slashed_len-counted false (c ∷ cs) = omega (arith, slashed_len-filter (λ d. not (is_cur d)) cs)

-- a text has at most one more counted component than bytes
pub length-counted_le : (rooted : Bool) (text : List ℕ) → length (counted rooted (components text)) ≤ length text + 1
length-counted_le rooted text =
    omega (
      arith,
      length_le_slashed_len (counted rooted (components text)),
      slashed_len-counted rooted (components text),
      slashed_len-components text,
    )

without_cur_dirs-inner : (cs : List Step) → without_cur_dirs (without_inner_cur_dirs cs) ≡ without_cur_dirs cs
without_cur_dirs-inner [] = refl
without_cur_dirs-inner (cur ∷ cs) = without_cur_dirs-twice cs
without_cur_dirs-inner (up ∷ cs) = ap (λ ds. up ∷ ds) (without_cur_dirs-twice cs)
without_cur_dirs-inner (name n ∷ cs) = ap (λ ds. name n ∷ ds) (without_cur_dirs-twice cs)

pub without_cur_dirs-unix : (text : List ℕ) → has_root text ≡ false
    → without_cur_dirs (unix_components text) ≡ without_cur_dirs (components text)
without_cur_dirs-unix text unrooted =
    ap (λ r. without_cur_dirs (counted r (components text))) unrooted ∙ without_cur_dirs-inner (components text)

-- ---- the end of a text

-- only slashes, and `.` components that don't count, were dropped from the end of the text
pub record LosesUncounted (rooted : Bool) (text left : List ℕ) : Type 0 where
  pub prefix : IsPrefix text left
  pub end : get_or left (length left - 1) 0 ≢ slash
  pub same : counted rooted (components left) ≡ counted rooted (components text)

-- the component that was taken is `.`
abbrev pub takes_cur : Option Component → Bool
takes_cur taken = option_eq (on step_of step_eq) taken (Some CurDir)

nil_from_components : (text front : List ℕ) (cs : List Step) → IsShortestPrefix text cs front → cs ≡ [] → front ≡ []
nil_from_components text front cs cut none =
    nil_from_length front (let short = cut.shortest 0 (components-nil ∙ sym none) in omega arith)

-- a `.` after other components, or under a root, doesn't count
counted-push_cur : (rooted : Bool) (cs : List Step) → (rooted ≡ true) ⊎ (cs ≢ [])
    → counted rooted (cs ++ cur ∷ []) ≡ counted rooted cs
counted-push_cur true [] uncounted = refl
counted-push_cur true (c ∷ cs) uncounted = counted-append true (c ∷ cs) (cur ∷ []) ∙ append-nil (counted true (c ∷ cs))
counted-push_cur false [] (inl e) = absurd (true≢false (sym e))
counted-push_cur false [] (inr some) = absurd (some refl)
counted-push_cur false (c ∷ cs) uncounted = counted-append false (c ∷ cs) (cur ∷ []) ∙ append-nil (counted false (c ∷ cs))

pub LosesUncounted-cur : (rooted : Bool) (text left front : List ℕ) (taken : Option Component) → takes_cur taken ≡ true
    → LosesUncounted rooted text left → TakesLast left taken front → (front ≢ []) ⊎ (rooted ≡ true)
    → LosesUncounted rooted text front
LosesUncounted-cur rooted text left front None is h takes uncounted = absurd (true≢false (sym is))
LosesUncounted-cur rooted text left front (Some c) is h (last, cut) uncounted =
    let last : components left ≡ components front ++ cur ∷ [] =
    last ∙ ap (λ d. components front ++ d ∷ []) ((step_eq-Decides (step_of c) cur).0 is) in
    let uncounted : (rooted ≡ true) ⊎ (components front ≢ []) =
    ⊎_elim (λ some. inr (λ none. some (nil_from_components left front _ cut (sym cut.same_components ∙ none))))
    (λ e. inl e) uncounted in
    record {
      prefix = IsPrefix-trans h.prefix (IsPrefix-shortest cut);
      end = end-IsShortestPrefix cut;
      same = sym (counted-push_cur rooted (components front) uncounted) ∙ ap (counted rooted) (sym last) ∙ h.same;
    }

-- the last component counts
abbrev pub LastCounts : Bool → List Step → Type 0
LastCounts rooted cs = cs ≢ [] → length (counted rooted (but_last cs)) < length (counted rooted cs)

last_counts : (rooted : Bool) (cs : List Step) (c : Step) → (is_cur c ≡ false) ⊎ ((cs ≡ []) × (rooted ≡ false))
    → length (counted rooted cs) < length (counted rooted (cs ++ c ∷ []))
last_counts rooted cs c (inl other) =
    let one = ap length (counted_one (after rooted cs) c other) in
    omega (
      arith,
      ap length (counted-append rooted cs (c ∷ [])),
      length-append (counted rooted cs) (counted (after rooted cs) (c ∷ [])),
    )
last_counts rooted cs c (inr (none, unrooted)) = rw (none, unrooted) (omega arith)

pub LastCounts-taken : (rooted : Bool) (left front : List ℕ) (taken : Option Component) → TakesLast left taken front
    → (takes_cur taken ≡ false) ⊎ ((front ≡ []) × (rooted ≡ false)) → LastCounts rooted (components left)
LastCounts-taken rooted left front None (none, _) counts = λ some. absurd (some none)
LastCounts-taken rooted left front (Some c) (last, cut) counts = λ _.
    let counts : (is_cur (step_of c) ≡ false) ⊎ ((components front ≡ []) × (rooted ≡ false)) =
    ⊎_elim (λ e. inl (other (step_of c) e)) (λ h. inr (ap components h.0 ∙ components-nil, h.1)) counts in
    rw (← cut.same_components, last) (last_counts rooted (components front) (step_of c) counts)
  where
    other : (d : Step) → step_eq d cur ≡ false → is_cur d ≡ false
    other cur e = absurd (true≢false (sym ((step_eq-Decides cur cur).1 refl) ∙ e))
    other up e = refl
    other (name n) e = refl
