-- What `Component` and `Components` show, and what a call of `next` or `next_back` takes.
use Rattle.std.specs.Prelude.{◌≡◌, ℕ, List, [], ◌∷◌, ◌++◌, map, Option, MatchOption}
use Rattle.std.specs.Iterator.Runs.{EveryRun, ItemsMapTo}
use Rattle.std.specs.Borrow.{Bor}
use Rattle.relative_path.specs.declared.component.Component.{Component}
use Rattle.relative_path.specs.declared.component.Component.TheVariants.{CurDir, ParentDir, Normal}
use Rattle.relative_path.specs.declared.component.Components.{Components}
use Rattle.relative_path.specs.declared.component.Iter.{Iter}
use Rattle.relative_path.specs.Steps.{Step, cur, up, name, step_text, components}
use Rattle.relative_path.specs.Slices.{IsFront, IsRest}

-- the step that a `Component` stands for
abbrev pub step_of : Component → Step
step_of CurDir = cur
step_of ParentDir = up
step_of (Normal n) = name n.now

-- the text that is left in a `Components`
abbrev pub text_left : Components → List ℕ
text_left it = it.left.text.now

-- the components that are left in a `Components`
abbrev pub components_left : Components → List Step
components_left it = components (text_left it)

-- the text that is left in an `Iter`
abbrev pub iter_text_left : Iter → List ℕ
iter_text_left iter = text_left iter.components

-- the text of a `&str`
abbrev pub text_of : Bor (List ℕ) → List ℕ
text_of s = s.now

-- the texts of the components of a text
abbrev pub component_texts : List ℕ → List (List ℕ)
component_texts text = map step_text (components text)

-- the texts of the components that are left in an `Iter`
abbrev pub texts_left : Iter → List (List ℕ)
texts_left iter = component_texts (iter_text_left iter)

-- the first item of the text was taken, or none because the text has none; the rest of the text is left
abbrev pub TakesFirstBy : {A X : Type 0} → (A → X) → (List ℕ → List X) → List ℕ → Option A → List ℕ → Type 0
TakesFirstBy shown items text taken rest =
    MatchOption taken (items text ≡ []) (λ x. items text ≡ shown x ∷ items rest) × IsRest text rest

-- the last item of the text was taken, or none because the text has none; the front of the text is left
abbrev pub TakesLastBy : {A X : Type 0} → (A → X) → (List ℕ → List X) → List ℕ → Option A → List ℕ → Type 0
TakesLastBy shown items text taken front =
    MatchOption taken (items text ≡ []) (λ x. items text ≡ items front ++ shown x ∷ []) × IsFront text front

-- the first component was taken
abbrev pub TakesFirst : List ℕ → Option Component → List ℕ → Type 0
TakesFirst = TakesFirstBy step_of components

-- the last component was taken
abbrev pub TakesLast : List ℕ → Option Component → List ℕ → Type 0
TakesLast = TakesLastBy step_of components

-- the first component was taken, as its text
abbrev pub TakesFirstText : List ℕ → Option (Bor (List ℕ)) → List ℕ → Type 0
TakesFirstText = TakesFirstBy text_of component_texts

-- the last component was taken, as its text
abbrev pub TakesLastText : List ℕ → Option (Bor (List ℕ)) → List ℕ → Type 0
TakesLastText = TakesLastBy text_of component_texts

-- calls of `next` in turn give the components that are left in the iterator, in order
abbrev pub GivesComponents : Type 0
GivesComponents =
    EveryRun {S = Components} (λ s taken t. TakesFirst (text_left s) taken (text_left t))
    (λ run. ItemsMapTo run step_of (components_left run.from))

-- the same of an `Iter`, which gives the texts of the components
abbrev pub GivesTextsOfComponents : Type 0
GivesTextsOfComponents =
    EveryRun {S = Iter} (λ s taken t. TakesFirstText (iter_text_left s) taken (iter_text_left t))
    (λ run. ItemsMapTo run text_of (texts_left run.from))
