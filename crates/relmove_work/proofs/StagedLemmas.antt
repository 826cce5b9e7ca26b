-- While things get their staging names: where a plan's tree has what, and where the run's tree has it.
use Rattle.std.proofs.Common.{◌≡◌, ◌≢◌, ◌⊎◌, ◌<◌, ◌≤◌, ◌+◌, ℕ, zero, suc, Bool, true, false, List, [], ◌∷◌, ◌++◌, Some, length, map, inl, inr, refl, sym, ap, subst, ◌∙◌, append-nil, arith, true≢false, if◌then◌else◌}
use Rattle.std.specs.List.{slice_get}
use Rattle.std.proofs.lemmas.Bool.{cases_lt}
use Rattle.relmove_trees.specs.FileTrees.{IsUnder, Place, Tree, after_rename}
use Rattle.relmove_trees.specs.TreeActions.{Action, LeadTo, Rename}
use Rattle.relmove_trees.proofs.FileTreesLemmas.{after_rename-from}
use Rattle.relmove_work.proofs.SeenTreesLemmas.{AreApart, ArePairs, Away, Corresponds, IsSeen, IsShifted, Matches, Outside, Paired, Within, seen-can, seen-rename, seen-shifted}
use Rattle.relmove_work.proofs.SeenRunsLemmas.{ComesAlong, never-there}

-- a thing, or a new text, with the place that it leaves, its label, and the place that the run has for that
pub record Step : Type 0 where
  pub is_text : Bool
  pub from : Place
  pub label : Place
  pub staging : Place

-- the places of these steps are apart from one another
pub record AreSteps (steps : List Step) : Type 0 where
  pub labels : (i j : ℕ) (s t : Step) → slice_get steps i ≡ Some s → slice_get steps j ≡ Some t → i ≢ j
      → AreApart s.label t.label × AreApart s.staging t.staging
  pub across : (i j : ℕ) (s t : Step) → slice_get steps i ≡ Some s → slice_get steps j ≡ Some t → AreApart s.label t.staging
  pub leave : (i j : ℕ) (s t : Step) → slice_get steps i ≡ Some s → slice_get steps j ≡ Some t
      → AreApart s.from t.label × AreApart s.from t.staging
  pub files : (i j : ℕ) (s t : Step) → slice_get steps i ≡ Some s → slice_get steps j ≡ Some t → i ≢ j → t.is_text ≡ true
      → ¬ IsUnder s.from t.from

-- where a step's thing is after the first k steps: a new text is in its file before, and everything else counts as at its label
abbrev pub IsNow : ℕ → ℕ → Step → Place → Type 0
IsNow k i s place = ((place ≡ s.label) × ((s.is_text ≡ false) ⊎ (i < k))) ⊎ ((place ≡ s.from) × (s.is_text ≡ true) × (k ≤ i))

-- after the first k steps the one place is where a thing of the plan is, and the other where the run has it
abbrev pub IsPair : List Step → ℕ → Place → Place → Type 0
IsPair steps k a b = (i : ℕ) × (s : Step) × (slice_get steps i ≡ Some s) × (b ≡ s.staging) × IsNow k i s a

-- what is apart stays so for equal places
pub apart-same : (a b c d : Place) → a ≡ c → b ≡ d → AreApart c d → AreApart a b
apart-same a b c d one other apart = (
  λ (rest, is). apart.0 (rest, sym one ∙ is ∙ ap (λ p. p ++ rest) other),
  λ (rest, is). apart.1 (rest, sym other ∙ is ∙ ap (λ p. p ++ rest) one),
)

pub turn : {a b : Place} → AreApart a b → AreApart b a
turn apart = (apart.1, apart.0)

pub equal_or : (i j : ℕ) → (i ≡ j) ⊎ (i ≢ j)
equal_or zero zero = inl refl
equal_or zero (suc j) = inr (λ same. omega (arith, same))
equal_or (suc i) zero = inr (λ same. omega (arith, same))
equal_or (suc i) (suc j) = elim (equal_or i j) [
  | inl same ↦ inl (ap suc same)
  | inr differ ↦ inr (λ same. differ (omega (arith, same)))
]

module _ (steps : List Step) (are : AreSteps steps) (k : ℕ) where
  now-across : (i j : ℕ) (s t : Step) (a : Place) → slice_get steps i ≡ Some s → slice_get steps j ≡ Some t → IsNow k i s a
      → AreApart a t.staging
  now-across i j s t a at at_2 (inl (is, why)) = apart-same a t.staging s.label t.staging is refl (are.across i j s t at at_2)
  now-across i j s t a at at_2 (inr (is, text, late)) =
      apart-same a t.staging s.from t.staging is refl (are.leave i j s t at at_2).1

  now-apart : (i j : ℕ) (s t : Step) (a c : Place) → slice_get steps i ≡ Some s → slice_get steps j ≡ Some t → i ≢ j
      → IsNow k i s a → IsNow k j t c → AreApart a c
  now-apart i j s t a c at at_2 differ (inl (is, why)) (inl (is_2, why_2)) =
      apart-same a c s.label t.label is is_2 (are.labels i j s t at at_2 differ).0
  now-apart i j s t a c at at_2 differ (inl (is, why)) (inr (is_2, text, late)) =
      apart-same a c s.label t.from is is_2 (turn (are.leave j i t s at_2 at).0)
  now-apart i j s t a c at at_2 differ (inr (is, text, late)) (inl (is_2, why)) =
      apart-same a c s.from t.label is is_2 (are.leave i j s t at at_2).0
  now-apart i j s t a c at at_2 differ (inr (is, text, late)) (inr (is_2, text_2, late_2)) =
      apart-same a c s.from t.from is is_2
      (are.files i j s t at at_2 differ text_2, are.files j i t s at_2 at (λ same. differ (sym same)) text)

  now-one : (i : ℕ) (s : Step) (a c : Place) → IsNow k i s a → IsNow k i s c → a ≡ c
  now-one i s a c (inl (is, why)) (inl (is_2, why_2)) = is ∙ sym is_2
  now-one i s a c (inl (is, inl thing)) (inr (is_2, text, late)) = absurd (true≢false (sym text ∙ thing))
  now-one i s a c (inl (is, inr early)) (inr (is_2, text, late)) = absurd (omega (arith, early, late))
  now-one i s a c (inr (is, text, late)) (inl (is_2, inl thing)) = absurd (true≢false (sym text ∙ thing))
  now-one i s a c (inr (is, text, late)) (inl (is_2, inr early)) = absurd (omega (arith, early, late))
  now-one i s a c (inr (is, text, late)) (inr (is_2, text_2, late_2)) = is ∙ sym is_2

  -- the places after the first k steps are pairs
  pub are-pairs : ArePairs (IsPair steps k)
  are-pairs = record {
    each = λ a b c d (i, s, at, is, now) (j, t, at_2, is_2, now_2). each a b c d i j s t at at_2 is is_2 now now_2 (equal_or i j);
    across = λ a b c d (i, s, at, is, now) (j, t, at_2, is_2, now_2).
        apart-same a d a t.staging refl is_2 (now-across i j s t a at at_2 now);
  }
    where
      each : (a b c d : Place) (i j : ℕ) (s t : Step) → slice_get steps i ≡ Some s → slice_get steps j ≡ Some t → b ≡ s.staging
          → d ≡ t.staging → IsNow k i s a → IsNow k j t c → (i ≡ j) ⊎ (i ≢ j)
          → ((a ≡ c) × (b ≡ d)) ⊎ (AreApart a c × AreApart b d)
      each a b c d i j s t at at_2 is is_2 now now_2 (inl same) =
          let one : s ≡ t = let e : Some s ≡ Some t = sym at ∙ ap (slice_get steps) same ∙ at_2 in cc e in
          let now_3 : IsNow k i s c = subst (λ (t : Step). IsNow k i t c) (sym one) (subst (λ j. IsNow k j t c) (sym same) now_2) in
          inl (now-one i s a c now now_3, is ∙ ap (λ (s : Step). s.staging) one ∙ sym is_2)
      each a b c d i j s t at at_2 is is_2 now now_2 (inr differ) =
          inr (
            now-apart i j s t a c at at_2 differ now now_2,
            apart-same b d s.staging t.staging is is_2 (are.labels i j s t at at_2 differ).1,
          )

  module _ (s : Step) (at : slice_get steps k ≡ Some s) where
    -- the step of a new text
    pub text-shifts : s.is_text ≡ true → IsShifted (IsPair steps k) (IsPair steps (suc k)) s.from s.label s.staging
    text-shifts text = record {
      before = (k, s, at, refl, inr (refl, text, omega arith));
      after = (k, s, at, refl, inl (refl, inr (omega arith)));
      kept = λ a b (i, t, at_2, is, now). kept a b i t at_2 is now (equal_or i k);
      come = λ a b (i, t, at_2, is, now). come a b i t at_2 is now (equal_or i k);
      fresh = λ a b (i, t, at_2, is, now). (
        fresh a i t at_2 now (equal_or k i),
        apart-same s.label b s.label t.staging refl is (are.across k i s t at at_2),
      );
    }
      where
        the_step : (i : ℕ) (t : Step) → slice_get steps i ≡ Some t → i ≡ k → t ≡ s
        the_step i t at_2 same = let e : Some t ≡ Some s = sym at_2 ∙ ap (slice_get steps) same ∙ at in cc e

        kept : (a b : Place) (i : ℕ) (t : Step) → slice_get steps i ≡ Some t → b ≡ t.staging → IsNow k i t a → (i ≡ k) ⊎ (i ≢ k)
            → ((a ≡ s.from) × (b ≡ s.staging)) ⊎ IsPair steps (suc k) a b
        kept a b i t at_2 is (inl (is_2, inl thing)) way = inr (i, t, at_2, is, inl (is_2, inl thing))
        kept a b i t at_2 is (inl (is_2, inr early)) way = inr (i, t, at_2, is, inl (is_2, inr (omega (arith, early))))
        kept a b i t at_2 is (inr (is_2, text_2, late)) (inl same) =
            let one = the_step i t at_2 same in
            inl (is_2 ∙ ap (λ (t : Step). t.from) one, is ∙ ap (λ (t : Step). t.staging) one)
        kept a b i t at_2 is (inr (is_2, text_2, late)) (inr differ) =
            inr (
              i,
              t,
              at_2,
              is,
              inr (
                is_2,
                text_2,
                elim (cases_lt k i) [
                  | inl less ↦ omega (arith, less)
                  | inr past ↦ let same : i ≡ k = omega (arith, past, late) in absurd (differ same)
                ],
              ),
            )

        come : (a b : Place) (i : ℕ) (t : Step) → slice_get steps i ≡ Some t → b ≡ t.staging → IsNow (suc k) i t a
            → (i ≡ k) ⊎ (i ≢ k) → ((a ≡ s.label) × (b ≡ s.staging)) ⊎ (IsPair steps k a b × AreApart a s.from)
        come a b i t at_2 is (inl (is_2, why)) (inl same) =
            let one = the_step i t at_2 same in
            inl (is_2 ∙ ap (λ (t : Step). t.label) one, is ∙ ap (λ (t : Step). t.staging) one)
        come a b i t at_2 is (inr (is_2, text_2, late)) (inl same) = absurd (omega (arith, late, same))
        come a b i t at_2 is (inl (is_2, inl thing)) (inr differ) =
            inr (
              (i, t, at_2, is, inl (is_2, inl thing)),
              apart-same a s.from t.label s.from is_2 refl (turn (are.leave k i s t at at_2).0),
            )
        come a b i t at_2 is (inl (is_2, inr early)) (inr differ) =
            let less : i < k = elim (cases_lt i k) [
              | inl less ↦ less
              | inr past ↦ let same : i ≡ k = omega (arith, past, early) in absurd (differ same)
            ] in
            inr (
              (i, t, at_2, is, inl (is_2, inr less)),
              apart-same a s.from t.label s.from is_2 refl (turn (are.leave k i s t at at_2).0),
            )
        come a b i t at_2 is (inr (is_2, text_2, late)) (inr differ) =
            inr (
              (i, t, at_2, is, inr (is_2, text_2, omega (arith, late))),
              apart-same a s.from t.from s.from is_2 refl
                  (are.files i k t s at_2 at differ text, are.files k i s t at at_2 (λ same. differ (sym same)) text_2),
            )

        fresh : (a : Place) (i : ℕ) (t : Step) → slice_get steps i ≡ Some t → IsNow k i t a → (k ≡ i) ⊎ (k ≢ i) → AreApart s.label a
        fresh a i t at_2 (inr (is_2, text_2, late)) way =
            apart-same s.label a s.label t.from refl is_2 (turn (are.leave i k t s at_2 at).0)
        fresh a i t at_2 (inl (is_2, why)) (inr differ) =
            apart-same s.label a s.label t.label refl is_2 (are.labels k i s t at at_2 differ).0
        fresh a i t at_2 (inl (is_2, inl thing)) (inl same) =
            absurd (true≢false (sym text ∙ ap (λ (t : Step). t.is_text) (sym (the_step i t at_2 (sym same))) ∙ thing))
        fresh a i t at_2 (inl (is_2, inr early)) (inl same) = absurd (omega (arith, early, same))

-- the same pairs
seen-same_pairs : (P Q : Place → Place → Type 0) → ((a b : Place) → P a b → Q a b) → ((a b : Place) → Q a b → P a b)
    → (tree other : Tree) → IsSeen P tree other → IsSeen Q tree other
seen-same_pairs P Q there back tree other seen = record {
  same = λ place place_2 corresponds. seen.same place place_2 (by place place_2 corresponds);
  hidden = λ a b rest pair. seen.hidden a b rest (back a b pair);
  unused = λ a b rest pair. seen.unused a b rest (back a b pair);
  held = λ a b top last pair split. seen.held a b top last (back a b pair) split;
}
  where
    by : (place place_2 : Place) → Corresponds Q place place_2 → Corresponds P place place_2
    by place place_2 (Paired a b rest pair is is_2) = Paired a b rest (back a b pair) is is_2
    by place place_2 (Outside is none) = Outside is (λ a b pair. none a b (there a b pair))

-- the number that is left between two
between : (k i : ℕ) → k < i → (j : ℕ) × (i ≡ suc (k + j))
between zero (suc i) less = (i, omega arith)
between (suc k) (suc i) less = let (j, is) = between k i (omega (arith, less)) in (j, omega (arith, is))
between k zero less = absurd (omega (arith, less))

-- the steps of things
abbrev pub things : List Step → List Step
things [] = []
things (s ∷ steps) = if s.is_text then things steps else s ∷ things steps

-- the run renames them alone, to its own places
abbrev pub thing_renames : List Step → List Action
thing_renames steps = map (λ s. Rename s.from s.staging) (things steps)

pub things-step : (steps : List Step) (j : ℕ) (s : Step) → slice_get (things steps) j ≡ Some s
    → (i : ℕ) × (slice_get steps i ≡ Some s) × (s.is_text ≡ false)
things-step [] j s at = absurd (cc at)
things-step (first ∷ steps) j s at = by first.is_text refl j at (λ k at_2. things-step steps k s at_2)
  where
    by : (text : Bool) → first.is_text ≡ text → (j : ℕ)
        → slice_get (if text then things steps else first ∷ things steps) j ≡ Some s
        → ((k : ℕ) → slice_get (things steps) k ≡ Some s → (i : ℕ) × (slice_get steps i ≡ Some s) × (s.is_text ≡ false))
        → (i : ℕ) × (slice_get (first ∷ steps) i ≡ Some s) × (s.is_text ≡ false)
    by true is j at later = let (i, at_2, thing) = later j at in (suc i, at_2, thing)
    by false is zero at later = let same : first ≡ s = cc at in (0, at, ap (λ (s : Step). s.is_text) (sym same) ∙ is)
    by false is (suc j) at later = let (i, at_2, thing) = later j at in (suc i, at_2, thing)

pub things-has : (steps : List Step) (i : ℕ) (s : Step) → slice_get steps i ≡ Some s → s.is_text ≡ false
    → (j : ℕ) × (slice_get (things steps) j ≡ Some s)
things-has [] i s at thing = absurd (cc at)
things-has (first ∷ steps) zero s at thing = by first.is_text refl
  where
    same : first ≡ s
    same = cc at

    by : (text : Bool) → first.is_text ≡ text
        → (j : ℕ) × (slice_get (if text then things steps else first ∷ things steps) j ≡ Some s)
    by true is = absurd (true≢false (sym is ∙ ap (λ (s : Step). s.is_text) same ∙ thing))
    by false is = (0, at)
things-has (first ∷ steps) (suc i) s at thing = by first.is_text (things-has steps i s at thing)
  where
    by : (text : Bool) → (j : ℕ) × (slice_get (things steps) j ≡ Some s)
        → (j : ℕ) × (slice_get (if text then things steps else first ∷ things steps) j ≡ Some s)
    by true there = there
    by false (j, at) = (suc j, at)

module _ (steps : List Step) (are : AreSteps steps) (more : List Action) (Q : Tree → Type 0) where
  abbrev renames : List Step → List Action
  renames rest = map (λ (s : Step). Rename s.from s.label) rest ++ more

  -- what is to come is the end of the steps
  abbrev IsRest : List Step → ℕ → Type 0
  IsRest rest k = (j : ℕ) → slice_get rest j ≡ slice_get steps (k + j)

  module _ (s : Step) (rest : List Step) (k : ℕ) (end : IsRest (s ∷ rest) k) (tree other : Tree)
      (leads : LeadTo (renames (s ∷ rest)) Q tree) (seen : IsSeen (IsPair steps k) tree other)
    where
      here : slice_get steps k ≡ Some s
      here = ap (slice_get steps) (let e : k ≡ k + 0 = omega arith in e) ∙ sym (end 0)

      later : IsRest rest (suc k)
      later j = end (suc j) ∙ ap (slice_get steps) (let e : k + suc j ≡ suc k + j = omega arith in e)

      -- a thing that leaves is apart from all that is somewhere else for the run
      thing-away : s.is_text ≡ false → Matches (IsPair steps k) s.from s.from
      thing-away thing = Away refl (λ a b (i, t, at, is, now). (
        apart a i t at now,
        apart-same s.from b s.from t.staging refl is (are.leave k i s t here at).1,
      ))
        where
          stays : (i : ℕ) (t : Step) → slice_get steps i ≡ Some t → t.is_text ≡ true → k ≤ i → (i ≡ k) ⊎ (i ≢ k)
              → AreApart s.from t.from
          stays i t at text late (inl same) =
              let one : t ≡ s = let e : Some t ≡ Some s = sym at ∙ ap (slice_get steps) same ∙ here in cc e in
              absurd (true≢false (sym text ∙ ap (λ (t : Step). t.is_text) one ∙ thing))
          stays i t at text late (inr differ) = (
            are.files k i s t here at (λ same. differ (sym same)) text,
            λ under.
                let less : k < i = elim (cases_lt k i) [
                  | inl less ↦ less
                  | inr past ↦ let same : i ≡ k = omega (arith, past, late) in absurd (differ same)
                ] in
                let (j, is) = between k i less in
                let at_2 : slice_get rest j ≡ Some t = later j ∙ ap (slice_get steps) (let e : suc k + j
                ≡ i = omega (arith, is) in e) ∙ at in
                never-there (λ (s : Step). s.from) (λ (s : Step). s.label) rest more Q (after_rename (s.from, s.label) tree) j t at_2
                (leads.1 (after_rename (s.from, s.label) tree) refl)
                (λ m u at_3. (are.leave i (suc k + m) t u at (sym (later m) ∙ at_3)).0.0)
                (after_rename-from s.from s.label tree t.from (are.leave i k t s at here).0.0 under),
          )

          apart : (a : Place) (i : ℕ) (t : Step) → slice_get steps i ≡ Some t → IsNow k i t a → AreApart s.from a
          apart a i t at (inl (is, why)) = apart-same s.from a s.from t.label refl is (are.leave k i s t here at).0
          apart a i t at (inr (is, text, late)) =
              apart-same s.from a s.from t.from refl is (stays i t at text late (equal_or i k))

      -- a thing's step changes no pair
      thing-keeps : s.is_text ≡ false → (a b : Place) → IsPair steps k a b → IsPair steps (suc k) a b
      thing-keeps thing a b (i, t, at, is, inl (is_2, inl why)) = (i, t, at, is, inl (is_2, inl why))
      thing-keeps thing a b (i, t, at, is, inl (is_2, inr early)) = (i, t, at, is, inl (is_2, inr (omega (arith, early))))
      thing-keeps thing a b (i, t, at, is, inr (is_2, text, late)) = elim (equal_or i k) [
        | inl same ↦
            let one : t ≡ s = let e : Some t ≡ Some s = sym at ∙ ap (slice_get steps) same ∙ here in cc e in
            absurd (true≢false (sym text ∙ ap (λ (t : Step). t.is_text) one ∙ thing))
        | inr differ ↦ (
          i,
          t,
          at,
          is,
          inr (
            is_2,
            text,
            elim (cases_lt k i) [
              | inl less ↦ omega (arith, less)
              | inr past ↦ let same : i ≡ k = omega (arith, past, late) in absurd (differ same)
            ],
          ),
        )
      ]

      thing-back : s.is_text ≡ false → (a b : Place) → IsPair steps (suc k) a b → IsPair steps k a b
      thing-back thing a b (i, t, at, is, inl (is_2, inl why)) = (i, t, at, is, inl (is_2, inl why))
      thing-back thing a b (i, t, at, is, inr (is_2, text, late)) = (i, t, at, is, inr (is_2, text, omega (arith, late)))
      thing-back thing a b (i, t, at, is, inl (is_2, inr early)) = elim (equal_or i k) [
        | inl same ↦
            let one : t ≡ s = let e : Some t ≡ Some s = sym at ∙ ap (slice_get steps) same ∙ here in cc e in
            (i, t, at, is, inl (is_2, inl (ap (λ (t : Step). t.is_text) one ∙ thing)))
        | inr differ ↦ (
          i,
          t,
          at,
          is,
          inl (
            is_2,
            inr (elim (cases_lt i k) [
              | inl less ↦ less
              | inr past ↦ let same : i ≡ k = omega (arith, past, early) in absurd (differ same)
            ]),
          ),
        )
      ]

      label-match : s.is_text ≡ false → Matches (IsPair steps k) s.label s.staging
      label-match thing =
          Within s.label s.staging [] (k, s, here, refl, inl (refl, inl thing)) (sym (append-nil s.label)) (sym (append-nil s.staging))

  -- what the steps lead to, and the renames of the things among them
  pub along-steps : (rest : List Step) (k n : ℕ) → IsRest rest k → n ≡ k + length rest → (tree other : Tree)
      → LeadTo (renames rest) Q tree → IsSeen (IsPair steps k) tree other
      → ComesAlong (IsPair steps n) more Q (thing_renames rest) other
  along-steps [] k n end count tree other leads seen =
      let same : k ≡ n = omega (arith, count) in
      record {
        tree = tree;
        end = other;
        seen = subst (λ n. IsSeen (IsPair steps n) tree other) same seen;
        goes_on = leads;
        leads = refl;
      }
  along-steps (s ∷ rest) k n end count tree other leads seen =
      by s.is_text refl (along-steps rest (suc k) n (later s rest k end tree other leads seen) (omega (arith, count)))
    where
      next : Tree
      next = after_rename (s.from, s.label) tree

      by : (text : Bool) → s.is_text ≡ text
          → ((tree other : Tree) → LeadTo (renames rest) Q tree → IsSeen (IsPair steps (suc k)) tree other
          → ComesAlong (IsPair steps n) more Q (thing_renames rest) other)
          → ComesAlong (IsPair steps n) more Q (map (λ s. Rename s.from s.staging) (if text then things rest else s ∷ things rest)) other
      by true text again =
          again next other (leads.1 next refl)
          (seen-shifted (IsPair steps k) (IsPair steps (suc k)) (are-pairs steps are k) s.from s.label s.staging
          (text-shifts steps are k s (here s rest k end tree other leads seen) text) tree other seen leads.0)
      by false thing again =
          let next_2 = after_rename (s.from, s.staging) other in
          let match = thing-away s rest k end tree other leads seen thing in
          let match_2 = label-match s rest k end tree other leads seen thing in
          let it = again next next_2 (leads.1 next refl)
          (seen-same_pairs (IsPair steps k) (IsPair steps (suc k)) (thing-keeps s rest k end tree other leads seen thing)
          (thing-back s rest k end tree other leads seen thing) next next_2
          (seen-rename (IsPair steps k) (are-pairs steps are k) tree other seen s.from s.from s.label s.staging match match_2)) in
          record {
            tree = it.tree;
            end = it.end;
            seen = it.seen;
            goes_on = it.goes_on;
            leads = (
              seen-can (IsPair steps k) (are-pairs steps are k) tree other seen s.from s.from s.label s.staging match match_2 leads.0,
              λ after acts. subst (λ (t : Tree). LeadTo (thing_renames rest) (λ t. t ≡ it.end) t) (sym acts) it.leads,
            );
          }
