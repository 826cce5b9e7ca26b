-- Theorems that proofs of other crates may cite: the work of a plan's actions can be carried out, and leads to the tree after the
-- moves.
use Rattle.std.proofs.Common.{All, ◌≡◌, ◌<◌, ℕ, List, [], ◌∷◌, ◌++◌, Some, map, sym, ap, subst, ◌∙◌, arith}
use Rattle.std.proofs.lemmas.Simd.{map-map}
use Rattle.std.proofs.lemmas.Slice.Zip.{AllZip-long}
use Rattle.relative_path.specs.Steps.{components, step_text}
use Rattle.relative_path.specs.Walk.{place_of}
use Rattle.relative_path_links.specs.declared.site.MovedSitePage.{MovedSitePage}
use Rattle.relative_path_links.specs.declared.site.SitePage.{SitePage}
use Rattle.relative_path_moves.specs.Moves.{Move}
use Rattle.relative_path_places.specs.Places.{directory}
use Rattle.relmove_checks.specs.Moves.{EachMove, HasNoReservedName}
use Rattle.relmove_checks.specs.Plan.{AreAllowed}
use Rattle.relmove_checks.specs.declared.entry.Entry.{Entry}
use Rattle.relmove_checks.specs.declared.name_rule.NameRule.{NameRule}
use Rattle.relmove_journal.specs.Shape.{IsOfRun}
use Rattle.relmove_journal.specs.declared.work.Work.{Work}
use Rattle.relmove_plan.proofs.ForCallers.{AgreesWith-some, HasTexts-some}
use Rattle.relmove_plan.proofs.PlacesLemmas.{names_of-normal}
use Rattle.relmove_plan.specs.KnownTrees.{AgreesWith, HasTexts, IsAfterMoves, tree_actions}
use Rattle.relmove_plan.specs.WholeTrees.{IsWhole, LeadsToFile}
use Rattle.relmove_steps.specs.Actions.{ActionTexts, DoesMove, ReplacesChanged, staged_names}
use Rattle.relmove_steps.specs.NewFiles.{IsNextTo}
use Rattle.relmove_steps.specs.Pages.{changed_paths, page_paths}
use Rattle.relmove_steps.specs.StagingNames.{numbered_name}
use Rattle.relmove_trees.specs.FileTrees.{File, Place, Tree, names_of}
use Rattle.relmove_trees.specs.TreeActions.{Action, LeadTo, Rename, Write}
use Rattle.relmove_work.specs.Leading.{LeadsThere}
use Rattle.relmove_work.specs.Works.{IsWorkOf, LacksOldText}
use Rattle.relmove_work.proofs.StagedLemmas.{Step}
use Rattle.relmove_work.proofs.WorksLemmas.{IsTreeFor, at-contains, at-map, contains-at, step_of, work-leads}
use Rattle.relmove_planned.proofs.KnownTreesLemmas.{is-known, with_run}
use Rattle.relmove_planned.proofs.LabelledLemmas as labels
use Rattle.relmove_planned.proofs.LabelledLemmas.{all-at, at-get}
use Rattle.relmove_planned.specs.Plans.{ArePageTexts, HasPlannedRun, HasRun, HasRunDirectory, HaveNoReservedNames, HaveTexts, IsAfterEach, IsKnownTree, IsMovedTree, IsPlanOf, IsPlannedWork, PlannedRun, StartsAt, no_actions, run_for, texts_of_plan}

module _ (entries : List Entry) (pages : List SitePage) (news : List MovedSitePage) (moves : List Move) (rule : NameRule)
    (actions : ActionTexts) (made emptied : List (List ℕ)) (of : IsPlanOf entries pages news moves rule actions made emptied)
    (plain : HaveNoReservedNames pages) (tree now : Tree)
    (agrees : AgreesWith entries pages moves actions tree) (texts : HasTexts pages news tree now) (directory : HasRunDirectory tree)
    (page_texts : List (List ℕ × List ℕ)) (are_texts : ArePageTexts pages page_texts)
  where
    leads : LeadTo (tree_actions actions made emptied) (IsAfterMoves moves now) tree
    leads = of.run tree now agrees texts

    is_tree : IsTreeFor (texts_of_plan actions made emptied) page_texts tree
    is_tree = record {
      whole = agrees.whole;
      directory = directory.there;
      empty = directory.empty;
      labels = λ i s at.
          agrees.staging s.1 (at-contains (staged_names actions) i s.1
          (labels.staged_has entries pages news moves rule actions made emptied of.whole of.accepted of.names of.files of.texts of.replaced
          of.only of.spelled of.made_paths plain (IsAfterMoves moves now) tree leads i s at));
      files = λ i s at text.
          let (a, page, bytes, at_2) = labels.of_text_file entries pages news moves rule actions made emptied of.whole of.accepted of.names
          of.files of.texts of.replaced of.only of.spelled of.made_paths plain (IsAfterMoves moves now) tree leads i s at text in
          agrees.new_files (page, s.0, bytes) (at-contains actions.texts a (page, s.0, bytes) at_2);
      old_texts = λ path text has.
          let (page, among, is, same) = are_texts path text has in
          let (k, at) = contains-at pages page among in
          let (within, got) = at-get pages k page at in
          let file = all-at (λ cs. LeadsToFile entries cs) (map (λ (page : SitePage). components page.path.now) pages) of.whole.files k
          (components page.path.now) (at-map (λ (page : SitePage). components page.path.now) pages k page at) in
          ap tree (names_of-normal (components page.path.now) path file.place is file.leads)
          ∙ all-at (λ (page : SitePage). (place : Place) → place_of (components page.path.now) ≡ Some place
          → tree place ≡ Some (File page.text.now)) pages agrees.texts k page at file.place file.leads
          ∙ ap (λ t. Some (File t)) same;
    }

    -- Whoever carries out the work of the plan's actions on a tree that agrees with the entries, and has the run's directory, can do
    -- so, and all done is the tree after the moves.
    pub plan-leads : (work : Work) → IsWorkOf (texts_of_plan actions made emptied) page_texts work → IsOfRun work
        → LeadsThere work (map (λ (new : List ℕ × List ℕ × List ℕ). new.2) actions.texts) (IsAfterMoves moves now) tree
    plan-leads work is_work of_run =
        work-leads (texts_of_plan actions made emptied)
        (labels.labelled entries pages news moves rule actions made emptied of.whole of.accepted of.names of.files of.texts
        of.replaced of.only
        of.spelled of.made_paths plain (IsAfterMoves moves now) tree leads)
        page_texts work is_work of_run tree is_tree (IsAfterMoves moves now)
        (subst (λ (staged : List Action). LeadTo (map (λ (new : List ℕ × List ℕ × List ℕ). Write (names_of new.1) new.2) actions.texts
        ++ (staged ++ labels.rest entries pages news moves rule actions made emptied of.whole of.accepted of.names of.files of.texts
        of.replaced of.only of.spelled of.made_paths plain (IsAfterMoves moves now) tree leads)) (IsAfterMoves moves now) tree)
        (sym (map-map (λ (s : Step). Rename s.from s.label) step_of actions.staged))
        (subst (λ (all : List Action). LeadTo all (IsAfterMoves moves now) tree)
        (labels.order entries pages news moves rule actions made emptied of.whole of.accepted of.names of.files of.texts of.replaced of.only
        of.spelled of.made_paths plain (IsAfterMoves moves now) tree leads)
        leads))

-- the tree with the new texts of the pages that change
with_texts : (run : PlannedRun)
    → IsPlanOf run.entries run.pages run.news run.moves run.rule run.actions run.made run.emptied → (tree : Tree)
    → (now : Tree) × HasTexts run.pages run.news tree now
with_texts run of tree =
    HasTexts-some run.pages run.news tree of.whole.pages_distinct
    (AllZip-long (ReplacesChanged run.actions) run.pages run.news of.replaced)

-- The same of a run of a plan.
pub run-leads : (run : PlannedRun) (work : Work) (texts : List (List ℕ)) (tree now : Tree) → StartsAt run work texts tree now
    → LeadsThere work texts (IsAfterMoves run.moves now) tree
run-leads run work texts tree now starts =
    let of_plan = starts.planned.of_plan in
    subst (λ texts. LeadsThere work texts (IsAfterMoves run.moves now) tree) (sym starts.planned.texts_are)
    (plan-leads run.entries run.pages run.news run.moves run.rule run.actions run.made run.emptied of_plan.of of_plan.plain tree now
    starts.is_tree.agrees starts.is_tree.texts starts.is_tree.directory run.page_texts of_plan.page_texts work of_plan.is_work
    starts.planned.of_run)

-- the old text of what is removed is among the pages' texts
pub lacks-none : (run : PlannedRun)
    → IsPlanOf run.entries run.pages run.news run.moves run.rule run.actions run.made run.emptied → HaveNoReservedNames run.pages
    → EachMove (DoesMove (changed_paths run.pages run.news) run.actions) run.moves → HaveTexts run.pages run.page_texts
    → ¬ LacksOldText (texts_of_plan run.actions run.made run.emptied) run.page_texts
lacks-none run of plain moved have =
    let (tree, agrees) = AgreesWith-some run.entries run.pages run.news run.moves run.actions of.whole of.names of.files in
    let (now, texts) = with_texts run of tree in
    labels.never_lacks run.entries run.pages run.news run.moves run.rule run.actions run.made run.emptied of.whole of.accepted of.names
    of.files of.texts of.replaced of.only of.spelled of.made_paths plain (IsAfterMoves run.moves now) tree (of.run tree now agrees texts)
    moved run.page_texts have

-- A tree that is known before the moves are planned is one for which they are planned.
pub run-starts : (run : PlannedRun) (work : Work) (texts : List (List ℕ)) (tree : Tree) → IsPlannedWork run work texts
    → IsKnownTree run.entries run.pages run.moves tree → (now : Tree) × StartsAt run work texts tree now
run-starts run work texts tree planned is =
    let of = planned.of_plan.of in
    let (now, has) = with_texts run of tree in (
      now,
      record {
        planned = planned;
        is_tree = record {
          agrees = record {
            whole = is.agrees.whole;
            directories = is.agrees.directories;
            files = is.agrees.files;
            texts = is.agrees.texts;
            only = is.agrees.only;
            staging = λ staging among.
                let (i, at) = contains-at (staged_names run.actions) staging among in
                let (number, numbered) =
                all-at (λ name. (n : ℕ) × (name ≡ numbered_name n)) (staged_names run.actions) of.names.numbered i staging at in
                ap (λ (name : List ℕ). tree (name ∷ [])) numbered ∙ is.unused [] number;
            new_files = λ new among.
                let (i, at) = contains-at run.actions.texts new among in
                let next = all-at (λ new. IsNextTo new.0 new.1) run.actions.texts of.files.next_to i new at in
                ap tree (labels.next-split new.0 new.1 next)
                ∙ is.unused (map step_text (directory (components new.0))) next.number;
          };
          texts = has;
          directory = is.directory;
        };
      },
    )

-- So whoever has the work and the new texts of `planned_work`, and such a tree, has what `carry_out_plan` requires; and what that
-- call says of the tree at its end is that this is the one after the moves, with the new texts.
pub moves-lead : (entries : List Entry) (pages : List SitePage) (news : List MovedSitePage) (moves : List Move) (rule : NameRule)
    (work : Work) (texts : List (List ℕ)) (tree : Tree) → HasRun entries pages news moves rule work texts
    → IsKnownTree entries pages moves tree
    → HasPlannedRun work texts tree × ((end : Tree) → IsAfterEach work texts tree end → IsMovedTree pages news moves tree end)
moves-lead entries pages news moves rule work texts tree has is =
    let run = run_for entries pages news moves rule has.actions has.made has.emptied has.page_texts in
    let (now, starts) = run-starts run work texts tree has.planned is in (
      (run, now, starts),
      λ end each. record { now = now; texts = starts.is_tree.texts; after = each run now starts },
    )

-- For whole entries without names of a run's own, and moves that pass each check, there is such a tree: so the calls say something.
pub IsKnownTree-some : (entries : List Entry) (pages : List SitePage) (moves : List Move) (rule : NameRule)
    → IsWhole entries (page_paths pages) → AreAllowed entries moves rule
    → All (λ entry. HasNoReservedName (components entry.path)) entries → (tree : Tree) × IsKnownTree entries pages moves tree
IsKnownTree-some entries pages moves rule whole accepted plain =
    let (tree, agrees) =
    AgreesWith-some entries pages [] moves no_actions whole
    record {
      numbered = λ k name within. none k within;
      different = λ j k name less within. none k within;
      unused = λ k name within. none k within;
    }
    record {
      of_pages = λ k new within. none k within;
      next_to = λ k new within. none k within;
      unused = λ k new within. none k within;
      different = λ j k new less within. none k within;
      no_name = λ k new within. none k within;
    } in
    (with_run tree, is-known entries pages moves rule whole accepted plain tree agrees)
  where
    none : (k : ℕ) → k < 0 → {P : Type 0} → P
    none k within {P} = absurd (omega (arith, within))
