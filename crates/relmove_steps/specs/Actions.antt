-- A run's renames: their order, that they lose nothing, and where they take things.
use Rattle.std.specs.Prelude.{◌≡◌, ◌<◌, ℕ, List, [], ◌∷◌, ◌++◌, IfSome, String, All, Contains, IsPermutation, length, map, slice_index_or, string_bytes}
use Rattle.std.specs.List.{AllZip}
use Rattle.std.specs.declared.alloc.Global.{Global}
use Rattle.relative_path.specs.Steps.{Step, components, slash}
use Rattle.relative_path.specs.Normalizing.{IsNormalTextOf}
use Rattle.relative_path.specs.Walk.{IsSame}
use Rattle.relative_path_links.specs.declared.site.MovedSitePage.{MovedSitePage}
use Rattle.relative_path_links.specs.declared.site.SitePage.{SitePage}
use Rattle.relative_path_moves.specs.Moves.{Move, move_at}
use Rattle.relative_path_places.specs.PlaceIndex.{IsNoneAt, path_at}
use Rattle.relmove_steps.specs.declared.renames.Renames.{Renames}
use Rattle.relmove_actions.specs.declared.actions.NewText.{NewText}
use Rattle.relmove_actions.specs.declared.actions.Rename.{Rename}
use Rattle.relmove_actions.specs.declared.actions.Actions.{Actions}

-- the path is below the other
abbrev pub IsBelow : List ℕ → List ℕ → Type 0
IsBelow path top = (rest : List ℕ) × (path ≡ top ++ slash ∷ rest)

-- what is below a path comes before it
abbrev pub BelowFirst : List (List ℕ) → Type 0
BelowFirst paths = (i j : ℕ) → i < j → j < length paths
    → ¬ IsBelow (slice_index_or paths j []) (slice_index_or paths i [])

-- what is above a path comes before it
abbrev pub AboveFirst : List (List ℕ) → Type 0
AboveFirst paths = (i j : ℕ) → i < j → j < length paths
    → ¬ IsBelow (slice_index_or paths i []) (slice_index_or paths j [])

-- ---- the actions as texts

-- a rename as a pair of texts: from where, and to where
abbrev pub rename_text : Rename → List ℕ × List ℕ
rename_text step = (string_bytes step.from, string_bytes step.to)

-- a page, the new file next to it, and the new text
abbrev pub new_text : NewText → List ℕ × List ℕ × List ℕ
new_text new = (string_bytes new.page, string_bytes new.file, string_bytes new.text)

-- what the actions write, rename and remove
pub record ActionTexts : Type 0 where
  pub texts : List (List ℕ × List ℕ × List ℕ)
  pub staged : List (List ℕ × List ℕ)
  pub placed : List (List ℕ × List ℕ)
  pub removed : List (List ℕ)

-- the actions of a run as texts
abbrev pub action_texts : Actions → ActionTexts
action_texts actions = record {
  texts = map new_text actions.texts.items;
  staged = map rename_text actions.staged.items;
  placed = map rename_text actions.placed.items;
  removed = map string_bytes actions.removed.items;
}

-- from the path to the staging name
abbrev pub to_name : String Global × String Global → List ℕ × List ℕ
to_name pair = (string_bytes pair.0, string_bytes pair.1)

-- from the staging name to the path
abbrev pub from_name : String Global × String Global → List ℕ × List ℕ
from_name pair = (string_bytes pair.1, string_bytes pair.0)

-- the same of renames that aren't in order yet
abbrev pub rename_texts : Renames → ActionTexts
rename_texts renames = record {
  texts = map new_text renames.texts.items;
  staged = map to_name renames.leaving.items;
  placed = map from_name renames.arrivals.items;
  removed = map string_bytes renames.removed.items;
}

-- one new text more is written
abbrev pub with_text : ActionTexts → List ℕ → List ℕ → List ℕ → ActionTexts
with_text actions page file text = record {
  texts = actions.texts ++ (page, file, text) ∷ [];
  staged = actions.staged;
  placed = actions.placed;
  removed = actions.removed;
}

-- one thing more leaves to a staging name, and comes from there to a path
abbrev pub with_carried : ActionTexts → List ℕ → List ℕ → List ℕ → ActionTexts
with_carried actions from staging to = record {
  texts = actions.texts;
  staged = actions.staged ++ (from, staging) ∷ [];
  placed = actions.placed ++ (staging, to) ∷ [];
  removed = actions.removed;
}

-- one thing more leaves to a staging name, and is removed there
abbrev pub with_removed : ActionTexts → List ℕ → List ℕ → ActionTexts
with_removed actions from staging = record {
  texts = actions.texts;
  staged = actions.staged ++ (from, staging) ∷ [];
  placed = actions.placed;
  removed = actions.removed ++ staging ∷ [];
}

-- ---- nothing is lost

-- the staging names to which something leaves
abbrev pub staged_names : ActionTexts → List (List ℕ)
staged_names actions = map (λ step. step.1) actions.staged

-- the staging names from which something comes
abbrev pub placed_names : ActionTexts → List (List ℕ)
placed_names actions = map (λ step. step.0) actions.placed

-- the names to which something leaves are, each once, those from which something comes and those that are removed
abbrev pub LosesNothing : ActionTexts → Type 0
LosesNothing actions = IsPermutation (staged_names actions) (placed_names actions ++ actions.removed)

-- ---- where things go

-- what the first actions write, rename and remove, the others do too
pub record AreAmong (actions more : ActionTexts) : Type 0 where
  pub texts : (new : List ℕ × List ℕ × List ℕ) → Contains actions.texts new → Contains more.texts new
  pub staged : (step : List ℕ × List ℕ) → Contains actions.staged step → Contains more.staged step
  pub placed : (step : List ℕ × List ℕ) → Contains actions.placed step → Contains more.placed step
  pub removed : (name : List ℕ) → Contains actions.removed name → Contains more.removed name

-- what is at the one path leaves to a staging name, and comes from there to the other path
pub record Carries (actions : ActionTexts) (from to : List ℕ) : Type 0 where
  pub staging : List ℕ
  pub leaves : Contains actions.staged (from, staging)
  pub comes : Contains actions.placed (staging, to)

-- what is at the path leaves to a staging name, and is removed there
pub record Removes (actions : ActionTexts) (from : List ℕ) : Type 0 where
  pub staging : List ℕ
  pub leaves : Contains actions.staged (from, staging)
  pub removed : Contains actions.removed staging

-- what is at the old path of the move is carried to its new path
pub record CarriesMove (actions : ActionTexts) (move : Move) : Type 0 where
  pub old : List ℕ
  pub new : List ℕ
  pub old_of : IsNormalTextOf move.old old
  pub new_of : IsNormalTextOf move.new new
  pub carries : Carries actions old new

-- what is where the components lead is removed
pub record RemovesAt (actions : ActionTexts) (cs : List Step) : Type 0 where
  pub old : List ℕ
  pub old_of : IsNormalTextOf cs old
  pub removes : Removes actions old

-- what is at the old path of the move is carried to its new path; but if the old path is one of these, it is removed
pub record DoesMove (paths : List (List Step)) (actions : ActionTexts) (move : Move) : Type 0 where
  pub carries : IsNoneAt paths move.old → CarriesMove actions move
  pub removes : ¬ IsNoneAt paths move.old → RemovesAt actions move.old

-- of each of the moves that leads from where the components lead, what is at the old path is removed
abbrev pub RemovesMoved : List Move → List Step → ActionTexts → Type 0
RemovesMoved moves cs actions =
    (k : ℕ) → k < length moves → IsSame cs (move_at moves k).old → RemovesAt actions (move_at moves k).old

-- the old paths of the moves
abbrev pub old_paths : List Move → List (List Step)
old_paths moves = map (λ move. move.old) moves

-- the pages of which new texts are written
abbrev pub pages_written : ActionTexts → List (List ℕ)
pages_written actions = map (λ new. new.0) actions.texts

-- new texts are written of these pages, one for one, in order
abbrev pub WritesPages : List (List Step) → ActionTexts → Type 0
WritesPages paths actions = AllZip IsNormalTextOf paths (pages_written actions)

-- one new text more is written, of this page
abbrev pub WritesPage : List Step → ActionTexts → ActionTexts → Type 0
WritesPage cs before after =
    (page : List ℕ) × IsNormalTextOf cs page × (pages_written after ≡ pages_written before ++ page ∷ [])

-- the new text of the page is written to a new file, which is carried to the page's new path
pub record ReplacesPage (actions : ActionTexts) (page : SitePage) (new : MovedSitePage) (text : List ℕ) : Type 0 where
  pub old : List ℕ
  pub old_of : IsNormalTextOf (components page.path.now) old
  pub file : List ℕ
  pub written : Contains actions.texts (old, file, text)
  pub carries : Carries actions file new.path

-- the page is replaced if it changes
abbrev pub ReplacesChanged : ActionTexts → SitePage → MovedSitePage → Type 0
ReplacesChanged actions page new = IfSome new.text (λ text. ReplacesPage actions page new (string_bytes text))

-- each page that changes is replaced
abbrev pub ReplacesPages : List SitePage → List MovedSitePage → ActionTexts → Type 0
ReplacesPages pages news actions = AllZip (ReplacesChanged actions) pages news

-- ---- nothing else leaves

-- why something leaves the path: a move leads from there, a page that changes is there, or a new text was written there
pub data LeavesFrom (moves : List Move) (paths : List (List Step)) (texts : List (List ℕ × List ℕ × List ℕ))
    (from : List ℕ) : Type 0 where
  of_move : (k : ℕ) → k < length moves → IsNormalTextOf (move_at moves k).old from → LeavesFrom moves paths texts from
  of_page : (k : ℕ) → k < length paths → IsNormalTextOf (path_at paths k) from → LeavesFrom moves paths texts from
  of_text : (page text : List ℕ) → Contains texts (page, from, text) → LeavesFrom moves paths texts from

-- nothing leaves but these
abbrev pub OnlyTheseLeave : List Move → List (List Step) → ActionTexts → Type 0
OnlyTheseLeave moves paths actions = All (λ step. LeavesFrom moves paths actions.texts step.0) actions.staged
