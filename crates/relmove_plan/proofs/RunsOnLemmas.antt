-- The actions of a plan lead from a tree that agrees with the entries and pages to the tree after the moves.
use Rattle.std.proofs.Common.{All, AllPairs, Contains, Global, true, IfSome, ◌≡◌, ◌≢◌, ℕ, List, [], ◌∷◌, Option, Some, None, String, get_or, is_some, map, string_bytes, inl, inr, ap, ◌∙◌}
use Rattle.std.specs.List.{AllZip}
use Rattle.std.proofs.lemmas.Bool.{false≢true}
use Rattle.std.proofs.lemmas.List.Elements.{All-map}
use Rattle.relative_path.specs.Normalizing.{IsNormalTextOf}
use Rattle.relative_path.specs.Steps.{Step, components}
use Rattle.relative_path.specs.Walk.{place_of}
use Rattle.relative_path_links.specs.declared.site.MovedSitePage.{MovedSitePage}
use Rattle.relative_path_links.specs.declared.site.SitePage.{SitePage}
use Rattle.relative_path_links.specs.declared.target.Target.{Target}
use Rattle.relative_path_moves.specs.Moves.{Move}
use Rattle.relmove_actions.specs.declared.actions.Actions.{Actions}
use Rattle.relmove_checks.specs.declared.entry.Entry.{Entry}
use Rattle.relmove_checks.specs.declared.name_rule.NameRule.{NameRule}
use Rattle.relmove_steps.specs.Actions.{BelowFirst, ReplacesChanged, ReplacesPage, action_texts}
use Rattle.relmove_steps.specs.Directories.{AreAllLeftBehind, IsLeftBehindByMove, MakesMissing}
use Rattle.relmove_steps.specs.Pages.{changed_paths, page_paths}
use Rattle.relmove_trees.specs.FileTrees.{File, Place, Tree, names_of}
use Rattle.relmove_plan.specs.KnownTrees.{AgreesWith, HasTexts, IsAfterMoves, RunsOn, tree_actions}
use Rattle.relmove_plan.proofs.RunWords.{DirectoriesArrive}
use Rattle.relmove_plan.specs.MovedTrees.{IsLeftBehind}
use Rattle.relmove_trees.specs.TreeActions.{LeadTo}
use Rattle.relmove_plan.proofs.ComingLemmas.{one_by_key}
use Rattle.relmove_plan.proofs.EmptiedLemmas.{among-left, deepest_first, left-among, left_there}
use Rattle.relmove_plan.proofs.KnownRunsLemmas.{IsKnownRun}
use Rattle.relmove_trees.proofs.LeadToLemmas.{LeadTo-weaker}
use Rattle.relmove_plan.proofs.LeavingLemmas.{All-changed_pages, All-changed_paths}
use Rattle.relmove_plan.proofs.MovedTreesLemmas.{HasNewTexts, IsRunOn}
use Rattle.relmove_plan.proofs.NewTextsLemmas.{IsTreeOf}
use Rattle.relmove_plan.proofs.PlannedLemmas as plans
use Rattle.relmove_plan.proofs.PlannedLemmas.{IsPlanned}
use Rattle.relmove_plan.proofs.TreeRemovesLemmas.{IsAmong, IsCleared-same}
use Rattle.relmove_plan.proofs.UnreadLemmas.{is_aside}
use Rattle.relmove_plan.proofs.WholeRunsLemmas.{leads}
use Rattle.relmove_plan.proofs.FreeWaysLemmas.{NothingInTheWay-actions}
use Rattle.relmove_plan.proofs.OpenLemmas.{CanBeMade-made, CanCome-actions}
use Rattle.relmove_plan.proofs.MadeLemmas.{DirectoriesArrive-made}

-- what holds of two lists by two relations holds by both
AllZip-both : {A B : Type 0} (R S : A → B → Type 0) (xs : List A) (ys : List B) → AllZip R xs ys → AllZip S xs ys
    → AllZip (λ x y. R x y × S x y) xs ys
AllZip-both R S [] [] one other = tt
AllZip-both R S [] (y ∷ ys) one other = absurd one
AllZip-both R S (x ∷ xs) [] one other = absurd one
AllZip-both R S (x ∷ xs) (y ∷ ys) one other = ((one.0, other.0), AllZip-both R S xs ys one.1 other.1)

module _ {entries : List Entry} {pages : List SitePage} {news : List MovedSitePage} {finds : List ℕ → List Target → Type 0}
    {root : Option (List Step)} {moves : List Move} {rule : NameRule} {actions : Actions}
    (planned : IsPlanned entries pages news finds root moves rule actions) (made emptied : List (List ℕ))
    (missing : MakesMissing moves (map components planned.accepted.apart.after) (action_texts actions) made)
    (order : BelowFirst emptied) (differ : AllPairs (λ one other. one ≢ other) emptied)
    (left : All (IsLeftBehindByMove moves moves) emptied) (all : AreAllLeftBehind moves moves emptied)
    (tree now : Tree) (agrees : AgreesWith entries pages moves (action_texts actions) tree)
    (texts : HasTexts pages news tree now)
  where
    abbrev run : IsKnownRun entries (page_paths pages) (changed_paths pages news) moves rule (action_texts actions)
    run = plans.known planned

    arrive : DirectoriesArrive moves (map components planned.accepted.apart.after) (action_texts actions) made
    arrive =
        DirectoriesArrive-made run (map components planned.accepted.apart.after) missing.staging missing.leave made missing.are_made

    -- the components lead to a file
    abbrev LeadsToText : List Step → Type 0
    LeadsToText cs = (place : Place) → place_of cs ≡ Some place → (bytes : List ℕ) × (tree place ≡ Some (File bytes))

    is_tree : IsTreeOf entries moves (changed_paths pages news) (action_texts actions) made tree
    is_tree = record {
      whole_tree = agrees.whole;
      directories = agrees.directories;
      files = agrees.files;
      pages = λ c inside.
          All-changed_paths LeadsToText pages news
          (All-map LeadsToText (λ (page : SitePage). components page.path.now) pages
          (λ k page within place leads. ((get_or pages k page).text.now, agrees.texts k page within place leads))) c [] inside;
      only = λ place some. elim (agrees.only place some) [
        | inl root ↦ inl root
        | inr (inl entry) ↦ inr (inl entry)
        | inr (inr unread) ↦
            inr (inr (is_aside run made arrive tree agrees.whole agrees.staging agrees.new_files place some unread))
      ];
    }

    -- if a new text is of the page where the components lead, this is what is there now
    abbrev HasText : List Step → Type 0
    HasText cs = (new : List ℕ × List ℕ × List ℕ) → Contains (action_texts actions).texts new → IsNormalTextOf cs new.0
        → (place : Place) → place_of cs ≡ Some place → now place ≡ Some (File new.2)

    abbrev IsNow : SitePage → MovedSitePage → Type 0
    IsNow page new = IfSome new.text (λ text. (place : Place) → place_of (components page.path.now) ≡ Some place
        → now place ≡ Some (File (string_bytes text)))

    has_text : (page : SitePage) (new : MovedSitePage) (text : Option (String Global)) → is_some text ≡ true
        → IfSome text (λ text. ReplacesPage (action_texts actions) page new (string_bytes text))
        → IfSome text (λ text. (place : Place) → place_of (components page.path.now) ≡ Some place
        → now place ≡ Some (File (string_bytes text))) → HasText (components page.path.now)
    has_text page new None changes replaces is = absurd (false≢true changes)
    has_text page new (Some text) changes replaces is = λ written has old_of place leads.
        let same : (replaces.old, replaces.file, string_bytes text) ≡ written =
        one_by_key (λ (new : List ℕ × List ℕ × List ℕ). new.0) (action_texts actions).texts run.one_text
        (replaces.old, replaces.file, string_bytes text) written replaces.written has
        (old_of.only replaces.old replaces.old_of.normal_text replaces.old_of.same) in
        is place leads ∙ ap (λ (new : List ℕ × List ℕ × List ℕ). Some (File new.2)) same

    has_texts : HasNewTexts (changed_paths pages news) (action_texts actions) tree now
    has_texts = record {
      written = λ new has c inside old_of place leads. each c [] inside new has old_of place leads;
      others = texts.others;
    }
      where
        each : All HasText (changed_paths pages news)
        each =
            All-changed_pages HasText (λ page new. ReplacesChanged (action_texts actions) page new × IsNow page new) pages news
            (λ page new changes known. has_text page new new.text changes known.0 known.1)
            (AllZip-both (ReplacesChanged (action_texts actions)) IsNow pages news planned.replaced texts.texts)

    on : IsRunOn entries moves (changed_paths pages news) (map components planned.accepted.apart.after) (action_texts actions) made
        tree now
    on = record {
      can = record {
        clear = NothingInTheWay-actions run;
        make = CanBeMade-made run made missing;
        come = CanCome-actions run made missing;
      };
      arrive = arrive;
      of = is_tree;
      now_is = has_texts;
    }

    pub runs : LeadTo (tree_actions (action_texts actions) made emptied) (IsAfterMoves moves now) tree
    runs =
        LeadTo-weaker (tree_actions (action_texts actions) made emptied) _ (IsAfterMoves moves now)
        (λ end (moved, is_moved, cleared). record {
          moved = moved;
          are_moved = is_moved;
          cleared = IsCleared-same (IsAmong (map names_of emptied)) (IsLeftBehind moves) moved end
              (left-among run emptied left all) (among-left run emptied left all) cleared;
        })
        tree
        (leads run made tree now on emptied (deepest_first run emptied order differ left)
        (left_there run made tree now on emptied left))

pub RunsOn-plan : {entries : List Entry} {pages : List SitePage} {news : List MovedSitePage}
    {finds : List ℕ → List Target → Type 0} {root : Option (List Step)} {moves : List Move} {rule : NameRule}
    {actions : Actions} (planned : IsPlanned entries pages news finds root moves rule actions) (made emptied : List (List ℕ))
    → MakesMissing moves (map components planned.accepted.apart.after) (action_texts actions) made
    → BelowFirst emptied → AllPairs (λ one other. one ≢ other) emptied → All (IsLeftBehindByMove moves moves) emptied
    → AreAllLeftBehind moves moves emptied → RunsOn entries pages news moves (action_texts actions) made emptied
RunsOn-plan planned made emptied missing order differ left all tree now agrees texts =
    runs planned made emptied missing order differ left all tree now agrees texts
