-- The actions of a plan can be done one after another, and lead to the tree after the moves.
use Rattle.std.proofs.Common.{AllPairs, ◌≡◌, ◌≢◌, ℕ, suc, ◌+◌, List, [], ◌∷◌, ◌++◌, Contains, length, map, get_or, refl, sym, ap, subst, ◌∙◌, arith}
use Rattle.std.proofs.lemmas.List.{get_or-append-add, length-append}
use Rattle.std.proofs.lemmas.Simd.{map-map}
use Rattle.relative_path.specs.Steps.{Step, components}
use Rattle.relative_path_moves.specs.Moves.{Move}
use Rattle.relmove_checks.specs.declared.entry.Entry.{Entry}
use Rattle.relmove_checks.specs.declared.name_rule.NameRule.{NameRule}
use Rattle.relmove_plan.proofs.CarriedLemmas as carrying
use Rattle.relmove_plan.proofs.KnownRunsLemmas.{IsKnownRun}
use Rattle.relmove_trees.proofs.LeadToLemmas.{LeadTo-append}
use Rattle.relmove_plan.proofs.MovedTreesLemmas as trees
use Rattle.relmove_plan.proofs.MovedTreesLemmas.{IsAmong-map, IsRunOn}
use Rattle.relmove_plan.proofs.NewTextsLemmas as texts
use Rattle.relmove_plan.proofs.NewTextsLemmas.{text_at}
use Rattle.relmove_plan.proofs.TreeAddsLemmas.{CanAddAll, after_adds}
use Rattle.relmove_plan.proofs.TreeRemovesLemmas.{AreDifferent, AreDirectories, DeepestFirst, IsAmong, LeadTo-clears, LeadTo-removes}
use Rattle.relmove_plan.proofs.TreeRenamesLemmas.{CanRenameAll, after_renames}
use Rattle.relmove_plan.proofs.TreeStagesLemmas as stages
use Rattle.relmove_plan.proofs.TreeStagesLemmas.{made_at}
use Rattle.relmove_trees.specs.FileTrees.{Tree, names_of}
use Rattle.relmove_plan.specs.KnownTrees.{tree_actions}
use Rattle.relmove_plan.specs.MovedTrees.{IsCleared, IsMoved}
use Rattle.relmove_plan.proofs.RunWords.{rename_places}
use Rattle.relmove_trees.specs.TreeActions.{Action, Clear, LeadTo, Make, Remove, Rename, Write}
use Rattle.relmove_steps.specs.Actions.{ActionTexts, placed_names}

lead_writes : (news : List (List ℕ × List ℕ × List ℕ)) (P : Tree → Type 0) (tree : Tree) → CanAddAll (map text_at news) tree
    → P (after_adds (map text_at news) tree) → LeadTo (map (λ new. Write (names_of new.1) new.2) news) P tree
lead_writes [] P tree can holds = holds
lead_writes (new ∷ news) P tree can holds = (
  can.0,
  λ next acts.
      lead_writes news P next (subst (CanAddAll (map text_at news)) (sym acts) can.1)
      (subst (λ (t : Tree). P (after_adds (map text_at news) t)) (sym acts) holds),
)

lead_makes : (made : List (List ℕ)) (P : Tree → Type 0) (tree : Tree) → CanAddAll (map made_at made) tree
    → P (after_adds (map made_at made) tree) → LeadTo (map (λ path. Make (names_of path)) made) P tree
lead_makes [] P tree can holds = holds
lead_makes (path ∷ made) P tree can holds = (
  can.0,
  λ next acts.
      lead_makes made P next (subst (CanAddAll (map made_at made)) (sym acts) can.1)
      (subst (λ (t : Tree). P (after_adds (map made_at made) t)) (sym acts) holds),
)

lead_renames : (actions : List (List ℕ × List ℕ)) (P : Tree → Type 0) (tree : Tree) → CanRenameAll (map rename_places actions) tree
    → P (after_renames (map rename_places actions) tree)
    → LeadTo (map (λ step. Rename (names_of step.0) (names_of step.1)) actions) P tree
lead_renames [] P tree can holds = holds
lead_renames (step ∷ actions) P tree can holds = (
  can.0,
  λ next acts.
      lead_renames actions P next (subst (CanRenameAll (map rename_places actions)) (sym acts) can.1)
      (subst (λ (t : Tree). P (after_renames (map rename_places actions) t)) (sym acts) holds),
)

-- places of different names are different
different : (names : List (List ℕ)) → ((r : List ℕ) → Contains names r → names_of r ≡ r ∷ [])
    → AllPairs (λ one other. one ≢ other) names → AreDifferent (map names_of names)
different [] single differ = tt
different (first ∷ names) single differ = (
  λ among.
      let (r, (k, within, is), same) = IsAmong-map names_of names (names_of first) among in
      differ 0 (suc k) r (omega arith) (omega (arith, within))
      (ap (λ place. get_or place 0 first)
      (sym (single first (0, omega arith, refl)) ∙ same ∙ single r (suc k, omega (arith, within), is))
      ∙ sym is),
  different names (λ r (k, within, is). single r (suc k, omega (arith, within), is))
      (λ i j d less within. differ (suc i) (suc j) d (omega (arith, less)) (omega (arith, within))),
)

module _ {entries : List Entry} {pages changed : List (List Step)} {moves : List Move} {rule : NameRule} {actions : ActionTexts}
    (run : IsKnownRun entries pages changed moves rule actions) (made : List (List ℕ)) (start now : Tree)
    (on : IsRunOn entries moves changed (map components run.accepted.apart.after) actions made start now)
  where
    removed_differ : AreDifferent (map names_of actions.removed)
    removed_differ =
        different actions.removed
        (λ r gone.
        let (from, left, c, inside, normal) =
        trees.removed_page run made start now on r gone in
        trees.name_at run made start now on from r left)
        (λ i j d less within same.
        let long = length-append (placed_names actions) actions.removed in
        (carrying.free_come run).different (length (placed_names actions) + i) (length (placed_names actions) + j) d (omega (arith, less))
        (omega (arith, within, long))
        (get_or-append-add (placed_names actions) actions.removed i d ∙ same
        ∙ sym (get_or-append-add (placed_names actions) actions.removed j d)))

    abbrev pub moved : Tree
    moved = trees.moved run made start now on

    -- whoever does the actions of the plan can do each, and comes to the tree after the moves
    pub leads : (emptied : List (List ℕ)) → DeepestFirst (map names_of emptied) → AreDirectories (map names_of emptied) moved
        → LeadTo (tree_actions actions made emptied)
        (λ end. (moved : Tree) × IsMoved moves now moved × IsCleared (IsAmong (map names_of emptied)) moved end) start
    leads emptied deep are =
        LeadTo-append ((((writes ++ leave) ++ make) ++ come) ++ remove) clears P start
        (LeadTo-append (((writes ++ leave) ++ make) ++ come) remove (LeadTo clears P) start
        (LeadTo-append ((writes ++ leave) ++ make) come (LeadTo remove (LeadTo clears P)) start
        (LeadTo-append (writes ++ leave) make (LeadTo come (LeadTo remove (LeadTo clears P))) start
        (LeadTo-append writes leave (LeadTo make (LeadTo come (LeadTo remove (LeadTo clears P)))) start
        (lead_writes actions.texts (LeadTo leave (LeadTo make (LeadTo come (LeadTo remove (LeadTo clears P))))) start
        (texts.can_write-all run made start on.of)
        (lead_renames actions.staged (LeadTo make (LeadTo come (LeadTo remove (LeadTo clears P)))) written
        (stages.can_leave run made on.can written has)
        (lead_makes made (LeadTo come (LeadTo remove (LeadTo clears P))) (stages.after_staging run made on.can written has)
        (stages.can_make-all run made on.can written has)
        (lead_renames actions.placed (LeadTo remove (LeadTo clears P)) (stages.after_making run made on.can written has)
        (stages.can_come-all run made on.can written has)
        (subst (λ actions. LeadTo actions (LeadTo clears P) after_placing) (map-map Remove names_of actions.removed)
        (LeadTo-removes (map names_of actions.removed) (LeadTo clears P) after_placing removed_differ
        (trees.gone_files run made start now on)
        (subst (λ actions. LeadTo actions P moved) (map-map Clear names_of emptied)
        (LeadTo-clears (map names_of emptied) P moved deep are
        (λ end cleared. (moved, trees.is_moved run made start now on, cleared))))))))))))))
      where
        P : Tree → Type 0
        P end = (moved : Tree) × IsMoved moves now moved × IsCleared (IsAmong (map names_of emptied)) moved end

        written : Tree
        written = texts.written run made start on.of

        has : stages.HasThings entries actions made written
        has = texts.has_things run made start on.of

        after_placing : Tree
        after_placing = stages.after_placing run made on.can written has

        writes : List Action
        writes = map (λ new. Write (names_of new.1) new.2) actions.texts

        leave : List Action
        leave = map (λ step. Rename (names_of step.0) (names_of step.1)) actions.staged

        make : List Action
        make = map (λ path. Make (names_of path)) made

        come : List Action
        come = map (λ step. Rename (names_of step.0) (names_of step.1)) actions.placed

        remove : List Action
        remove = map (λ path. Remove (names_of path)) actions.removed

        clears : List Action
        clears = map (λ path. Clear (names_of path)) emptied
