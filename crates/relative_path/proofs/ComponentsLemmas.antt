-- The first or the last component taken off a text: a trim, a cut at a slash, and a trim.
use Rattle.std.proofs.Common.{◌≡◌, ◌≢◌, ℕ, ◌-◌, List, [], ◌∷◌, ◌++◌, length, get_or, take, drop, Option, Some, None, sym, refl, ap, ap₂, ◌∙◌, subst, inl, inr, arith, length-append, take_at}
use Rattle.std.specs.Iterator.{MakesProgress, item_count}
use Rattle.std.specs.List.{position_or_len, before_first, after_first, before_last, after_last}
use Rattle.std.specs.Prelude.{⊤, ◌+◌}
use Rattle.relative_path.specs.Slashes.{last_start}
use Rattle.std.proofs.lemmas.Iterator.{YieldsList}
use Rattle.std.proofs.lemmas.Iterator.Consumers.{YieldsList-from_shown}
use Rattle.std.proofs.lemmas.List.{drop_all}
use Rattle.std.specs.Borrow.{Bor}
use Rattle.std.proofs.iter.runs.Sources.{from_front}
use Rattle.relative_path.specs.declared.component.Component.{Component}
use Rattle.relative_path.specs.declared.component.Components.{Components}
use Rattle.relative_path.specs.declared.component.Iter.{Iter}
use Rattle.std.specs.Ordering.{ordering_reverse}
use Rattle.std.specs.declared.cmp.Ordering.{Ordering}
use Rattle.std.specs.declared.cmp.Ordering.TheVariants.{Less, Equal, Greater}
use Rattle.relative_path.specs.Steps.{Step, slash, is_slash, classed, components}
use Rattle.relative_path.specs.Comparing.{steps_cmp}
use Rattle.relative_path.specs.ComparingLaws.{steps_comparison}
use Rattle.relative_path.specs.Slices.{IsRest, IsFront}
use Rattle.relative_path.specs.Components.{step_of, text_left, components_left, TakesFirst, TakesLast, TakesFirstText, text_of, iter_text_left, texts_left, GivesComponents, GivesTextsOfComponents}
use Rattle.relative_path.proofs.StepsLemmas.{HasNoSlash, components-nil, components-append, components_whole, last-append_slash}
use Rattle.relative_path.proofs.SlashesLemmas.{joined_at_first_slash, joined_at_last_slash, HasNoSlash-before_first, HasNoSlash-after_last}
use Rattle.relative_path.proofs.SlicesLemmas.{IsSuffix, IsSuffix-drop, IsSuffix-of_drop, IsSuffix-trans, IsPrefix, IsPrefix-take, IsPrefix-trans, IsShortestPrefix-from, IsShortestPrefix-nil}

-- the text without the slashes at its start
pub record IsTrimmedStart (text trimmed : List ℕ) : Type 0 where
  pub suffix : IsSuffix text trimmed
  pub start : get_or trimmed 0 0 ≢ slash
  pub same : components trimmed ≡ components text

-- a non-empty piece is its only component
components_piece : (p : List ℕ) → p ≢ [] → HasNoSlash p → components p ≡ classed p ∷ []
components_piece [] nonempty h = absurd (nonempty refl)
components_piece (b ∷ bs) nonempty h = components_whole (b ∷ bs) (omega arith) h

-- if there is no component, the rest and the front are empty
IsRest-none : (text r : List ℕ) → components text ≡ [] → r ≡ [] → IsRest text r
IsRest-none text r none empty = rw empty (record {
  suffix = sym (drop_all (length text - 0) text (omega arith));
  no_leading_slash = λ e. absurd (omega (arith, e));
  other_components = components-nil ∙ sym (ap (drop 1) none);
})

IsFront-none : (text p : List ℕ) → components text ≡ [] → p ≡ [] → IsFront text p
IsFront-none text p none empty = rw (empty, none) (IsShortestPrefix-nil text)

-- if a text is trimmed to nothing, it has no component
pub TakesFirst-none : (text trimmed : List ℕ) → IsTrimmedStart text trimmed → trimmed ≡ []
    → TakesFirst text None trimmed
TakesFirst-none text trimmed trim empty =
    let none = sym trim.same ∙ ap components empty ∙ components-nil in (none, IsRest-none text trimmed none empty)

components-first : (text : List ℕ) → get_or text 0 0 ≢ slash → text ≢ []
    → components text ≡ classed (before_first is_slash text) ∷ components (after_first is_slash text)
components-first text start some =
    let piece = λ (nonempty : before_first is_slash text ≢ []).
    components_piece (before_first is_slash text) nonempty (HasNoSlash-before_first text) in
    elim (joined_at_first_slash text) [
      | inl joined ↦ ap components joined ∙ components-append (before_first is_slash text) (after_first is_slash text)
          ∙ ap (λ cs. cs ++ components (after_first is_slash text))
          (piece (λ none. start (ap (λ x. get_or x 0 0) (joined ∙ ap (λ x. x ++ slash ∷ after_first is_slash text) none))))
      | inr (whole, none) ↦ ap components whole ∙ piece (λ empty. some (whole ∙ empty))
          ∙ ap (λ cs. classed (before_first is_slash text) ∷ cs) (sym (ap components none ∙ components-nil))
    ]

-- the first component is the piece before the first slash, and the rest is the text after that slash
pub TakesFirst-some : (text trimmed left : List ℕ) (c : Component) → IsTrimmedStart text trimmed
    → IsTrimmedStart (after_first is_slash trimmed) left → trimmed ≢ []
    → step_of c ≡ classed (before_first is_slash trimmed) → TakesFirst text (Some c) left
TakesFirst-some text trimmed left c trim trim' some is =
    let cs : components text ≡ step_of c ∷ components left =
    sym trim.same ∙ components-first trimmed trim.start some ∙ ap₂ (λ d ds. d ∷ ds) (sym is) (sym trim'.same) in
    let rest = IsSuffix-of_drop (position_or_len is_slash trimmed + 1) trimmed in (
      cs,
      record {
        suffix = IsSuffix-drop (IsSuffix-trans trim.suffix (IsSuffix-trans rest trim'.suffix));
        no_leading_slash = trim'.start;
        other_components = sym (ap (drop 1) cs);
      },
    )

-- the text without the slashes at its end
pub record IsTrimmedEnd (text trimmed : List ℕ) : Type 0 where
  pub prefix : IsPrefix text trimmed
  pub end : get_or trimmed (length trimmed - 1) 0 ≢ slash
  pub same : components trimmed ≡ components text

-- if a text is trimmed to nothing, it has no component
pub TakesLast-none : (text trimmed : List ℕ) → IsTrimmedEnd text trimmed → trimmed ≡ [] → TakesLast text None trimmed
TakesLast-none text trimmed trim empty =
    let none = sym trim.same ∙ ap components empty ∙ components-nil in (none, IsFront-none text trimmed none empty)

components-last : (text : List ℕ) → get_or text (length text - 1) 0 ≢ slash → text ≢ []
    → components text ≡ components (before_last is_slash text) ++ classed (after_last is_slash text) ∷ []
components-last text end some =
    let piece = λ (nonempty : after_last is_slash text ≢ []).
    components_piece (after_last is_slash text) nonempty (HasNoSlash-after_last text) in
    elim (joined_at_last_slash text) [
      | inl joined ↦
          let ended = λ (none : after_last is_slash text ≡ []). joined ∙ ap (λ x. before_last is_slash text ++ slash ∷ x) none in
          ap components joined ∙ components-append (before_last is_slash text) (after_last is_slash text)
          ∙ ap (λ cs. components (before_last is_slash text) ++ cs)
          (piece (λ none. end (ap (λ x. get_or x (length x - 1) 0) (ended none) ∙ last-append_slash (before_last is_slash text))))
      | inr (whole, none) ↦ ap components whole ∙ piece (λ empty. some (whole ∙ empty))
          ∙ ap (λ cs. cs ++ classed (after_last is_slash text) ∷ []) (sym (ap components none ∙ components-nil))
    ]

-- the last component is the piece after the last slash, and the front is the text before that slash
pub TakesLast-some : (text trimmed left : List ℕ) (c : Component) → IsTrimmedEnd text trimmed
    → IsTrimmedEnd (before_last is_slash trimmed) left → trimmed ≢ []
    → step_of c ≡ classed (after_last is_slash trimmed) → TakesLast text (Some c) left
TakesLast-some text trimmed left c trim trim' some is =
    let cs : components text ≡ components left ++ step_of c ∷ [] =
    sym trim.same ∙ components-last trimmed trim.end some
    ∙ ap₂ (λ ds d. ds ++ d ∷ []) (sym trim'.same) (sym is) in
    let counted : length (components left) ≡ length (components text) - 1 =
    omega (arith, ap length cs, length-append (components left) (step_of c ∷ [])) in
    let firsts =
    sym (ap (take (length (components left))) cs ∙ take_at (components left) (step_of c ∷ []) (length (components left)) refl) in (
      cs,
      IsShortestPrefix-from
          (IsPrefix-trans trim.prefix (IsPrefix-trans (IsPrefix-take (last_start is_slash trimmed - 1) trimmed) trim'.prefix))
          (firsts ∙ ap (λ n. take n (components text)) counted) trim'.end,
    )

-- ---- lists of components, and the end of the iterators

equal_from_reverse : (o : Ordering) → o ≡ ordering_reverse o → o ≡ Equal
equal_from_reverse Less e = absurd (cc)
equal_from_reverse Equal e = refl
equal_from_reverse Greater e = absurd (cc)

-- a list of components is equal to itself in the order
pub steps_cmp-same : (cs : List Step) → steps_cmp cs cs ≡ Equal
steps_cmp-same cs = equal_from_reverse (steps_cmp cs cs) (steps_comparison.total.antisymm cs cs)

pub MakesProgress-TakesFirst : (s t : Components) (r : Option Component) → TakesFirst (text_left s) r (text_left t)
    → MakesProgress (λ _. ⊤) (item_count components_left) s r t
MakesProgress-TakesFirst s t None taken = record { on = λ _. tt; keeps = tt; rests = λ h. h }
MakesProgress-TakesFirst s t (Some c) (joined, _) =
    record { on = λ h. (tt, h, omega (arith, ap length joined)); keeps = tt; rests = λ _. tt }

pub MakesProgress-TakesLast : (s t : Components) (r : Option Component) → TakesLast (text_left s) r (text_left t)
    → MakesProgress (λ _. ⊤) (item_count components_left) s r t
MakesProgress-TakesLast s t None taken = record { on = λ _. tt; keeps = tt; rests = λ h. h }
MakesProgress-TakesLast s t (Some c) (joined, _) =
    record {
      on = λ h. (tt, h, omega (arith, ap length joined, length-append (components_left t) (step_of c ∷ [])));
      keeps = tt;
      rests = λ _. tt;
    }

-- an iterator gives the components of its text in order
pub YieldsList-components : (s : Components) (text : List ℕ) → text_left s ≡ text
    → YieldsList (λ s taken t. TakesFirst (text_left s) taken (text_left t)) step_of s (components text)
YieldsList-components s text same =
    subst (λ x. YieldsList (λ s taken t. TakesFirst (text_left s) taken (text_left t)) step_of s (components x)) same
    (YieldsList-from_shown (λ s taken t. TakesFirst (text_left s) taken (text_left t))
    step_of components_left (λ s t taken. ap length taken.0) (λ s c t taken. taken.0) s)

-- a call of `next` of a `Components`
abbrev walk_steps : Components → Option Component → Components → Type 0
walk_steps s taken t = TakesFirst (text_left s) taken (text_left t)

-- a call of `next` of an `Iter`
abbrev iter_steps : Iter → Option (Bor (List ℕ)) → Iter → Type 0
iter_steps s taken t = TakesFirstText (iter_text_left s) taken (iter_text_left t)

pub GivesComponents-shown : GivesComponents
GivesComponents-shown =
    from_front walk_steps step_of components_left (λ s t taken. ap length taken.0) (λ s c t taken. taken.0)

pub GivesTextsOfComponents-shown : GivesTextsOfComponents
GivesTextsOfComponents-shown =
    from_front iter_steps text_of texts_left (λ s t taken. ap length taken.0) (λ s c t taken. taken.0)
