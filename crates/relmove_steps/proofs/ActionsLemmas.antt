-- One rename more, and renames in another order, lose nothing.
use Rattle.std.proofs.Common.{◌≡◌, ℕ, List, [], ◌∷◌, ◌++◌, map, sym, ap, subst, ◌∙◌, append_assoc}
use Rattle.std.proofs.lemmas.List.{map_push}
use Rattle.std.proofs.lemmas.List.Sorted.{IsPermutation-append, IsPermutation-append_left, IsPermutation-cons, IsPermutation-map, IsPermutation-middle, IsPermutation-refl, IsPermutation-sym, IsPermutation-to_front, IsPermutation-trans}
use Rattle.std.specs.List.Sorted.{IsPermutation}
use Rattle.relmove_steps.specs.Actions.{ActionTexts, with_carried, with_removed, staged_names, placed_names, LosesNothing}

-- what a text is of is pushed
pub map_push-same : {X Y : Type 0} (f : X → Y) (before after : List X) (x : X) (y : Y) → after ≡ before ++ x ∷ []
    → f x ≡ y → map f after ≡ map f before ++ y ∷ []
map_push-same f before after x y pushed same =
    ap (map f) pushed ∙ map_push f before x ∙ ap (λ z. map f before ++ z ∷ []) same

module _ (left come removed : List (List ℕ)) (name : List ℕ) (kept : IsPermutation left (come ++ removed)) where
  -- one more name, from which something comes
  pub IsPermutation-come : IsPermutation (left ++ name ∷ []) ((come ++ name ∷ []) ++ removed)
  IsPermutation-come =
      IsPermutation-trans (left ++ name ∷ []) (name ∷ left) ((come ++ name ∷ []) ++ removed)
      (IsPermutation-to_front left name)
      (IsPermutation-trans (name ∷ left) (name ∷ (come ++ removed)) ((come ++ name ∷ []) ++ removed)
      (IsPermutation-cons name left (come ++ removed) kept)
      (subst (IsPermutation (name ∷ (come ++ removed))) (sym (append_assoc come (name ∷ []) removed))
      (IsPermutation-sym (come ++ name ∷ removed) (name ∷ (come ++ removed)) (IsPermutation-middle come name removed))))

  -- one more name that is removed
  pub IsPermutation-removed : IsPermutation (left ++ name ∷ []) (come ++ (removed ++ name ∷ []))
  IsPermutation-removed =
      subst (IsPermutation (left ++ name ∷ [])) (append_assoc come removed (name ∷ []))
      (IsPermutation-append_left (name ∷ []) left (come ++ removed) kept)

module _ (actions : ActionTexts) (from staging : List ℕ) where
  pub staged_names-push : map (λ (step : List ℕ × List ℕ). step.1) (actions.staged ++ (from, staging) ∷ [])
      ≡ staged_names actions ++ staging ∷ []
  staged_names-push = map_push (λ (step : List ℕ × List ℕ). step.1) actions.staged (from, staging)

  -- one thing more leaves, and comes to a path
  pub LosesNothing-with_carried : (to : List ℕ) → LosesNothing actions → LosesNothing (with_carried actions from staging to)
  LosesNothing-with_carried to kept =
      let placed_names-push = map_push (λ (step : List ℕ × List ℕ). step.0) actions.placed (staging, to) in
      rw (staged_names-push, placed_names-push)
      (IsPermutation-come (staged_names actions) (placed_names actions) actions.removed staging kept)

  -- one thing more leaves, and is removed
  pub LosesNothing-with_removed : LosesNothing actions → LosesNothing (with_removed actions from staging)
  LosesNothing-with_removed kept =
      rw staged_names-push (IsPermutation-removed (staged_names actions) (placed_names actions) actions.removed staging kept)

-- the same in another order
pub LosesNothing-reordered : (before after : ActionTexts) → IsPermutation before.staged after.staged
    → IsPermutation before.placed after.placed → after.removed ≡ before.removed → LosesNothing before
    → LosesNothing after
LosesNothing-reordered before after staged placed same kept =
    rw same
    (IsPermutation-trans _ _ _
    (IsPermutation-sym _ _ (IsPermutation-map (λ (step : List ℕ × List ℕ). step.1) before.staged after.staged staged))
    (IsPermutation-trans _ _ _ kept
    (IsPermutation-append _ _ before.removed before.removed
    (IsPermutation-map (λ (step : List ℕ × List ℕ). step.0) before.placed after.placed placed)
    (IsPermutation-refl before.removed))))
