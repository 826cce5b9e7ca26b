-- A text onto which components are pushed, one after another.
use Rattle.std.proofs.Common.{◌≡◌, ℕ, List, [], ◌∷◌, ◌++◌, sym, ap, ◌∙◌, subst, append_assoc}
use Rattle.relative_path.specs.Steps.{Step, cur, up, name, components, spell, step_text, SpellsItself, SpellThemselves}
use Rattle.relative_path.specs.Editing.{pushed}
use Rattle.relative_path.specs.Normalizing.{AreNames, IsNormal, IsNormalText, IsNormalTextOf}
use Rattle.relative_path.proofs.ForCallers.{IsSame-refl, SpellThemselves-components, components-pushed, spell-pushed, unslashed-spell}
use Rattle.relative_path_places.proofs.NormalPathLemmas.{AreNames-normal, IsNormalTextOf-same}

-- the text spells the first components of the list, and the others are left
pub record IsFrontText (cs : List Step) (text : List ℕ) (left : List Step) : Type 0 where
  pub spelled : text ≡ spell (components text)
  pub split : components text ++ left ≡ cs

-- a push onto the empty text gives the text that is pushed
pub pushed-empty : (empty front text : List ℕ) → IsNormalText front → empty ≡ [] → text ≡ pushed empty front → text ≡ front
pushed-empty empty front text normal none pushes =
    pushes ∙ ap (λ text. pushed text front) none
    ∙ subst (λ text. pushed [] text ≡ text) (sym normal.spelled)
    (unslashed-spell (components front) (SpellThemselves-components front))

-- the components after a push
components-next : (text : List ℕ) (c : Step) → SpellsItself c
    → components (pushed text (step_text c)) ≡ components text ++ c ∷ []
components-next text c alone = components-pushed text (step_text c) ∙ ap (λ cs. components text ++ cs) alone

-- the next component is pushed
pub IsFrontText-push : (cs : List Step) (text next : List ℕ) (c : Step) (left rest : List Step) → IsFrontText cs text left
    → left ≡ c ∷ rest → SpellsItself c → next ≡ pushed text (step_text c) → IsFrontText cs next rest
IsFrontText-push cs text next c left rest front is alone pushes =
    let comps = components-next text c alone in
    rw pushes (record {
      spelled = spell-pushed text c front.spelled alone ∙ ap spell (sym comps);
      split = ap (λ ds. ds ++ rest) comps ∙ append_assoc (components text) (c ∷ []) rest
          ∙ ap (λ ds. components text ++ ds) (sym is) ∙ front.split;
    })

-- the next component of another text is pushed
pub IsFrontText-next : (cs : List Step) (text next left rest : List ℕ) (c : Step) → IsFrontText cs text (components left)
    → components left ≡ c ∷ components rest → next ≡ pushed text (step_text c) → IsFrontText cs next (components rest)
IsFrontText-next cs text next left rest c front is =
    IsFrontText-push cs text next c (components left) (components rest) front is
    (subst SpellThemselves is (SpellThemselves-components left)).0

AreNames-append : (cs ds : List Step) → AreNames cs → AreNames ds → AreNames (cs ++ ds)
AreNames-append [] ds names more = more
AreNames-append (cur ∷ cs) ds names more = absurd names
AreNames-append (up ∷ cs) ds names more = absurd names
AreNames-append (name n ∷ cs) ds names more = AreNames-append cs ds names more

-- a normal list stays normal with names at its end
pub IsNormal-append_names : (cs ds : List Step) → IsNormal cs → AreNames ds → IsNormal (cs ++ ds)
IsNormal-append_names [] ds normal names = AreNames-normal ds names
IsNormal-append_names (cur ∷ cs) ds normal names = absurd normal
IsNormal-append_names (up ∷ cs) ds normal names = IsNormal-append_names cs ds normal names
IsNormal-append_names (name n ∷ cs) ds normal names = AreNames-append cs ds normal names

-- names after a normal text
pub IsNormalTextOf-names : (front text : List ℕ) (names : List Step) → IsNormalText front → AreNames names
    → text ≡ spell (components text) → components text ≡ components front ++ names
    → IsNormalTextOf (components front ++ names) text
IsNormalTextOf-names front text names normal are spelled all =
    IsNormalTextOf-same (components front ++ names) text
    (record {
      spelled = spelled;
      normal = subst IsNormal (sym all) (IsNormal-append_names (components front) names normal.normal are);
    }) (rw all (IsSame-refl (components front ++ names)))
