-- Two iterators in step: what is taken off a path as long as it agrees with another.
use Rattle.std.proofs.Common.{◌≡◌, ◌≢◌, ℕ, zero, suc, Bool, true, false, not, List, [], ◌∷◌, ◌++◌, length, Option, Some, None, sym, refl, ap, ◌∙◌, subst, append_assoc, append-nil, arith, length-append, true≢false}
use Rattle.std.specs.Option.{option_eq}
use Rattle.std.specs.Ordering.{on}
use Rattle.std.proofs.lemmas.Bool.{not-true, not-false}
use Rattle.std.proofs.lemmas.List.{append_cancel_left, append_cancel_right, same_from_push}
use Rattle.relative_path.specs.declared.component.Component.{Component}
use Rattle.relative_path.specs.Steps.{Step, components}
use Rattle.relative_path.specs.Slices.{IsRest}
use Rattle.relative_path.specs.Components.{step_of, TakesFirst, TakesLast}
use Rattle.relative_path.specs.Comparing.{step_eq}
use Rattle.relative_path.specs.ComparingLaws.{step_eq-Decides}
use Rattle.relative_path.specs.Prefixing.{StartsWith, EndsWith, IsDropped}

-- the component that was taken isn't c, or none was taken
abbrev pub is_other : Option Component → Component → Bool
is_other taken c = not (option_eq (on step_of step_eq) taken (Some c))

same_step : (d c : Component) → is_other (Some d) c ≡ false → step_of d ≡ step_of c
same_step d c e = (step_eq-Decides (step_of d) (step_of c)).0 (not-false _ e)

other_step : (d c : Component) → is_other (Some d) c ≡ true → step_of d ≢ step_of c
other_step d c e = λ same. true≢false (sym ((step_eq-Decides (step_of d) (step_of c)).1 same) ∙ not-true _ e)

-- ---- at the front

-- one more rest
IsDropped-rest : (text : List ℕ) (n : ℕ) (left rest : List ℕ)
    → IsDropped text n left → IsRest left rest → IsDropped text (suc n) rest
IsDropped-rest text zero left rest same is = (rest, subst (λ x. IsRest x rest) same is, refl)
IsDropped-rest text (suc n) left rest (next, first, dropped) is =
    (next, first, IsDropped-rest next n left rest dropped is)

-- one more component is taken
taken_first : (taken cs left rest : List Step) (c : Step)
    → cs ≡ taken ++ left → left ≡ c ∷ rest → cs ≡ (taken ++ c ∷ []) ++ rest
taken_first taken cs left rest c joined first =
    joined ∙ ap (λ x. taken ++ x) first ∙ sym (append_assoc taken (c ∷ []) rest)

-- the same components were taken off both texts, and these texts are left
pub record Agrees (text base left base_left : List ℕ) : Type 0 where
  pub taken : List Step
  pub joined : components text ≡ taken ++ components left
  pub base_joined : components base ≡ taken ++ components base_left
  pub dropped : IsDropped text (length taken) left

-- all components of the base were taken
pub Agrees-all : {text base left base_left : List ℕ} → Agrees text base left base_left → components base_left ≡ []
    → (components text ≡ components base ++ components left) × IsDropped text (length (components base)) left
Agrees-all {text} {base} {left} h none =
    let all = h.base_joined ∙ ap (λ cs. h.taken ++ cs) none ∙ append-nil h.taken in (
      h.joined ∙ ap (λ cs. cs ++ components left) (sym all),
      subst (λ cs. IsDropped text (length cs) left) (sym all) h.dropped,
    )

module _ {text base left base_left : List ℕ} (h : Agrees text base left base_left) (c : Component) {rest : List ℕ} where
  -- the next component is the same
  pub Agrees-taken : (t : Option Component) {base_rest : List ℕ}
      → TakesFirst left t rest → components base_left ≡ step_of c ∷ components base_rest → is_other t c ≡ false
      → Agrees text base rest base_rest
  Agrees-taken None takes first same = absurd (true≢false same)
  Agrees-taken (Some d) {base_rest} takes first same =
      let text_first = takes.0 ∙ ap (λ s. s ∷ components rest) (same_step d c same) in
      let more : suc (length h.taken) ≡ length (h.taken ++ step_of c ∷ []) =
      omega (arith, length-append h.taken (step_of c ∷ [])) in
      record {
        taken = h.taken ++ step_of c ∷ [];
        joined = taken_first _ _ _ _ _ h.joined text_first;
        base_joined = taken_first _ _ _ _ _ h.base_joined first;
        dropped = subst (λ n. IsDropped text n rest) more (IsDropped-rest text _ left rest h.dropped takes.1);
      }

  -- the next component differs, so the text doesn't start with the prefix
  pub StartsWith-other : (t : Option Component) {cs : List Step}
      → TakesFirst left t rest → components base_left ≡ step_of c ∷ cs → is_other t c ≡ true
      → StartsWith (components text) (components base) → ⊥
  StartsWith-other t {cs} takes first other (end, starts) = differs t takes other
    where
      base_whole : components base ≡ h.taken ++ (step_of c ∷ cs)
      base_whole = h.base_joined ∙ ap (λ x. h.taken ++ x) first

      whole : components text ≡ h.taken ++ (step_of c ∷ cs ++ end)
      whole = starts ∙ ap (λ x. x ++ end) base_whole ∙ append_assoc h.taken (step_of c ∷ cs) end

      same : components left ≡ step_of c ∷ cs ++ end
      same = append_cancel_left h.taken _ _ (sym h.joined ∙ whole)

      differs : (t : Option Component) → TakesFirst left t rest → is_other t c ≡ true → ⊥
      differs None takes other = omega (arith, ap length (sym takes.0 ∙ same))
      differs (Some d) takes other = let joined = sym takes.0 ∙ same in other_step d c other cc

-- ---- at the back

-- one more component is taken
taken_last : (taken cs left front : List Step) (c : Step)
    → cs ≡ left ++ taken → left ≡ front ++ c ∷ [] → cs ≡ front ++ c ∷ taken
taken_last taken cs left front c joined last =
    joined ∙ ap (λ x. x ++ taken) last ∙ append_assoc front (c ∷ []) taken

-- the same components were taken off both lists, and these lists are left
pub record AgreesBack (cs child left child_left : List Step) : Type 0 where
  pub taken : List Step
  pub joined : cs ≡ left ++ taken
  pub child_joined : child ≡ child_left ++ taken

module _ {cs child child_left : List Step} {left : List ℕ} (h : AgreesBack cs child (components left) child_left)
    (c : Component) (child_front : List Step) {front : List ℕ} where
  -- the next component from the back is the same
  pub AgreesBack-taken : (t : Option Component)
      → TakesLast left t front → child_left ≡ child_front ++ step_of c ∷ [] → is_other t c ≡ false
      → AgreesBack cs child (components front) child_front
  AgreesBack-taken None takes last same = absurd (true≢false same)
  AgreesBack-taken (Some d) takes last same =
      let text_last = takes.0 ∙ ap (λ s. components front ++ s ∷ []) (same_step d c same) in
      record {
        taken = step_of c ∷ h.taken;
        joined = taken_last _ _ _ _ _ h.joined text_last;
        child_joined = taken_last _ _ _ _ _ h.child_joined last;
      }

  -- the next component from the back differs, so the list doesn't end with the child
  pub EndsWith-other : (t : Option Component)
      → TakesLast left t front → child_left ≡ child_front ++ step_of c ∷ [] → is_other t c ≡ true
      → EndsWith cs child → ⊥
  EndsWith-other t takes last other (start, ends) = differs t takes other
    where
      later : List Step
      later = step_of c ∷ h.taken

      whole : cs ≡ start ++ (child_front ++ later)
      whole = ends ∙ ap (λ x. start ++ x) (taken_last _ _ _ _ _ h.child_joined last)

      parts : start ++ (child_front ++ later) ≡ ((start ++ child_front) ++ step_of c ∷ []) ++ h.taken
      parts =
          sym (append_assoc start child_front later)
          ∙ sym (append_assoc (start ++ child_front) (step_of c ∷ []) h.taken)

      same : components left ≡ (start ++ child_front) ++ step_of c ∷ []
      same = append_cancel_right _ _ h.taken (sym h.joined ∙ whole ∙ parts)

      differs : (t : Option Component) → TakesLast left t front → is_other t c ≡ true → ⊥
      differs None takes other =
          omega (arith, ap length (sym takes.0 ∙ same), length-append (start ++ child_front) (step_of c ∷ []))
      differs (Some d) takes other = other_step d c other (same_from_push _ _ _ _ (sym takes.0 ∙ same)).1
