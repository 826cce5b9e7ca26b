-- Nothing leaves but what moves, pages that change, and new texts.
use Rattle.std.proofs.Common.{All, ◌≡◌, ℕ, List, [], ◌∷◌, ◌++◌, Contains, subst, sym}
use Rattle.std.proofs.lemmas.List.Elements.{All-push, All-weaker, Contains-append_left}
use Rattle.std.proofs.lemmas.List.Sorted.{All-permutation}
use Rattle.std.specs.List.Sorted.{IsPermutation}
use Rattle.relative_path.specs.Steps.{Step}
use Rattle.relative_path_moves.specs.Moves.{Move}
use Rattle.relmove_steps.specs.Actions.{ActionTexts, with_text, with_carried, with_removed, LeavesFrom, of_move, of_page, of_text, OnlyTheseLeave}

module _ (moves : List Move) (paths : List (List Step)) where
  -- a reason stays with more texts
  LeavesFrom-more : (texts more : List (List ℕ × List ℕ × List ℕ))
      → ((new : List ℕ × List ℕ × List ℕ) → Contains texts new → Contains more new) → (from : List ℕ)
      → LeavesFrom moves paths texts from → LeavesFrom moves paths more from
  LeavesFrom-more texts more among from (of_move k l is) = of_move k l is
  LeavesFrom-more texts more among from (of_page k l is) = of_page k l is
  LeavesFrom-more texts more among from (of_text page text has) = of_text page text (among (page, from, text) has)

  pub OnlyTheseLeave-with_text : (actions : ActionTexts) (page file text : List ℕ) → OnlyTheseLeave moves paths actions
      → OnlyTheseLeave moves paths (with_text actions page file text)
  OnlyTheseLeave-with_text actions page file text only =
      let more = actions.texts ++ (page, file, text) ∷ [] in
      All-weaker (λ step. LeavesFrom moves paths actions.texts step.0) (λ step. LeavesFrom moves paths more step.0)
      (λ step. LeavesFrom-more actions.texts more (Contains-append_left actions.texts ((page, file, text) ∷ [])) step.0)
      actions.staged only

  pub OnlyTheseLeave-with_carried : (actions : ActionTexts) (from staging to : List ℕ) → LeavesFrom moves paths actions.texts from
      → OnlyTheseLeave moves paths actions → OnlyTheseLeave moves paths (with_carried actions from staging to)
  OnlyTheseLeave-with_carried actions from staging to leaves only =
      All-push (λ step. LeavesFrom moves paths actions.texts step.0) actions.staged (from, staging) only leaves

  pub OnlyTheseLeave-with_removed : (actions : ActionTexts) (from staging : List ℕ) → LeavesFrom moves paths actions.texts from
      → OnlyTheseLeave moves paths actions → OnlyTheseLeave moves paths (with_removed actions from staging)
  OnlyTheseLeave-with_removed actions from staging leaves only =
      All-push (λ step. LeavesFrom moves paths actions.texts step.0) actions.staged (from, staging) only leaves

  -- the same in another order
  pub OnlyTheseLeave-reordered : (actions more : ActionTexts) → IsPermutation actions.staged more.staged → more.texts ≡ actions.texts
      → OnlyTheseLeave moves paths actions → OnlyTheseLeave moves paths more
  OnlyTheseLeave-reordered actions more staged same only =
      subst (λ texts. All (λ (step : List ℕ × List ℕ). LeavesFrom moves paths texts step.0) more.staged) (sym same)
      (All-permutation (λ step. LeavesFrom moves paths actions.texts step.0) actions.staged more.staged staged only)
