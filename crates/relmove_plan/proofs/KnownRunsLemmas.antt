-- What is known of a run over a whole tree, in one record.
use Rattle.std.proofs.Common.{All, AllPairs, ◌≡◌, ◌≢◌, List, [], ◌∷◌, ℕ, Contains, map}
use Rattle.relative_path.specs.Steps.{Step, name, components}
use Rattle.relative_path.specs.Normalizing.{IsNormalTextOf}
use Rattle.relative_path_moves.specs.Moves.{Move}
use Rattle.relative_path_moves.specs.TreeMoves.{AtTreePath}
use Rattle.relmove_checks.specs.declared.entry.Entry.{Entry}
use Rattle.relmove_checks.specs.declared.name_rule.NameRule.{NameRule}
use Rattle.relmove_checks.specs.Moves.{EachMove}
use Rattle.relmove_checks.specs.Plan.{AreAllowed}
use Rattle.relmove_checks.specs.Trees.{entry_paths}
use Rattle.relmove_steps.specs.StagingNames.{AreFreeNames}
use Rattle.relmove_steps.specs.NewFiles.{HaveOwnFiles, LeaveOnce}
use Rattle.relmove_steps.specs.Actions.{ActionTexts, AboveFirst, BelowFirst, Carries, DoesMove, LosesNothing, OnlyTheseLeave, RemovesAt, staged_names}
use Rattle.relmove_plan.specs.WholeTrees.{LeadsToFile, IsWhole}

-- the new text of the page where the components lead is written to a file, and carried to where the moves take the page
pub record IsReplaced (moves : List Move) (actions : ActionTexts) (cs : List Step) : Type 0 where
  pub old : List ℕ
  pub old_of : IsNormalTextOf cs old
  pub file : List ℕ
  pub text : List ℕ
  pub written : Contains actions.texts (old, file, text)
  pub to : List ℕ
  pub carries : Carries actions file to
  pub goes : AtTreePath moves cs (λ now. IsNormalTextOf now to)

-- the tree is whole, the moves are accepted, the staging names are free, and the actions do what the moves say
pub record IsKnownRun (entries : List Entry) (pages changed : List (List Step)) (moves : List Move) (rule : NameRule)
    (actions : ActionTexts) : Type 0 where
  pub whole : IsWhole entries pages
  pub files : All (LeadsToFile entries) changed
  pub accepted : AreAllowed entries moves rule
  pub below_first : BelowFirst (map (λ step. step.0) actions.staged)
  pub above_first : AboveFirst (map (λ step. step.1) actions.placed)
  pub once : LeaveOnce actions
  pub nothing_lost : LosesNothing actions
  pub only : OnlyTheseLeave moves changed actions
  pub names : AreFreeNames (entry_paths entries) (staged_names actions)
  pub single : All (λ staging. components staging ≡ name staging ∷ []) (staged_names actions)
  pub own : HaveOwnFiles (entry_paths entries) changed actions
  pub moved : EachMove (DoesMove changed actions) moves
  pub removed : All (RemovesAt actions) changed
  pub replaced : All (IsReplaced moves actions) changed
  -- no page has two new texts
  pub one_text : AllPairs (λ one other. one.0 ≢ other.0) actions.texts
