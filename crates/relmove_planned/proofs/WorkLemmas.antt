-- What `make_plan` and `work_of` say together.
use Rattle.std.proofs.Common.{◌≡◌, List, [], ◌∷◌, ℕ, All, map, refl, ap₂, string_bytes}
use Rattle.std.specs.List.{AllZip}
use Rattle.relative_path_links.specs.declared.site.SitePage.{SitePage}
use Rattle.relative_path_moves.specs.Moves.{Move}
use Rattle.relmove_actions.specs.declared.actions.NewText.{NewText}
use Rattle.relmove_checks.specs.Plan.{AreAllowed}
use Rattle.relmove_checks.specs.Trees.{entry_paths}
use Rattle.relmove_checks.specs.declared.entry.Entry.{Entry}
use Rattle.relmove_checks.specs.declared.name_rule.NameRule.{NameRule}
use Rattle.relmove_plan.specs.ActionPaths.{AreSpelled, DoNoMore}
use Rattle.relmove_plan.specs.KnownTrees.{RunsOn}
use Rattle.relmove_plan.specs.MadePaths.{IsMadePath}
use Rattle.relmove_plan.specs.WholeTrees.{IsWhole}
use Rattle.relmove_plan.specs.declared.plan.Plan.{Plan}
use Rattle.relmove_steps.specs.Actions.{ActionTexts, ReplacesPages, WritesPages, action_texts, staged_names}
use Rattle.relmove_steps.specs.NewFiles.{HaveOwnFiles}
use Rattle.relmove_steps.specs.Pages.{changed_paths, page_paths}
use Rattle.relmove_steps.specs.StagingNames.{AreFreeNames}
use Rattle.relmove_work.specs.Works.{IsAtStagingName, new_text}
use Rattle.relmove_planned.specs.Plans.{IsPlanOf, PlannedRun, run_for}

-- the new texts at their staging names are those of the plan
pub texts-staged : (news there : List NewText) → AllZip IsAtStagingName news there
    → map (λ new. string_bytes new.text) there ≡ map (λ (new : List ℕ × List ℕ × List ℕ). new.2) (map new_text news)
texts-staged [] [] are = refl
texts-staged [] (m ∷ there) are = absurd are
texts-staged (n ∷ news) [] are = absurd are
texts-staged (n ∷ news) (m ∷ there) (is, are) = ap₂ (λ text texts. text ∷ texts) is.text (texts-staged news there are)

module _ (entries : List Entry) (pages : List SitePage) (moves : List Move) (rule : NameRule) (plan : Plan) where
  abbrev pub actions_of : ActionTexts
  actions_of = action_texts plan.actions

  abbrev pub made_of : List (List ℕ)
  made_of = map string_bytes plan.actions.made.items

  abbrev pub emptied_of : List (List ℕ)
  emptied_of = map string_bytes plan.actions.emptied.items

  -- the run of the plan
  abbrev pub run_of : List (List ℕ × List ℕ) → PlannedRun
  run_of texts = run_for entries pages plan.pages.items moves rule actions_of made_of emptied_of texts

  -- the plan is one of `make_plan`
  pub is_plan : IsWhole entries (page_paths pages) → AreAllowed entries moves rule
      → AreFreeNames (entry_paths entries) (staged_names actions_of)
      → HaveOwnFiles (entry_paths entries) (changed_paths pages plan.pages.items) actions_of
      → WritesPages (changed_paths pages plan.pages.items) actions_of → ReplacesPages pages plan.pages.items actions_of
      → (IsWhole entries (page_paths pages) → RunsOn entries pages plan.pages.items moves actions_of made_of emptied_of)
      → (IsWhole entries (page_paths pages) → AreSpelled actions_of made_of emptied_of)
      → (IsWhole entries (page_paths pages) → All (IsMadePath moves actions_of) made_of)
      → DoNoMore moves (changed_paths pages plan.pages.items) actions_of emptied_of
      → IsPlanOf entries pages plan.pages.items moves rule actions_of made_of emptied_of
  is_plan whole accepted names files texts replaced run spelled made only = record {
    whole = whole;
    accepted = accepted;
    names = names;
    files = files;
    texts = texts;
    replaced = replaced;
    run = run whole;
    spelled = spelled whole;
    made_paths = made whole;
    only = only;
  }
