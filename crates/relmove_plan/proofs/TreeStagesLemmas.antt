-- The stages of a run can be done on a tree, one after another.
use Rattle.std.proofs.Common.{true, ◌≡◌, ◌≢◌, ◌⊎◌, ℕ, ◌<◌, ◌+◌, List, [], Contains, Option, Some, None, IsSome, length, map, take, get_or, inl, inr, refl, sym, ap, subst, ◌∙◌, append-nil, arith}
use Rattle.std.proofs.lemmas.List.{get_or-take, length-map, length-take-le}
use Rattle.std.specs.List.{Any}
use Rattle.relative_path.specs.Steps.{Step}
use Rattle.relative_path_moves.specs.Moves.{Move}
use Rattle.relmove_checks.specs.declared.entry.Entry.{Entry}
use Rattle.relmove_checks.specs.declared.name_rule.NameRule.{NameRule}
use Rattle.relmove_plan.proofs.CarriedLemmas as carrying
use Rattle.relmove_plan.proofs.CarriedLemmas.{coming, leaving}
use Rattle.relmove_plan.proofs.KnownRunsLemmas.{IsKnownRun}
use Rattle.relmove_plan.proofs.SourcesLemmas.{element, get_or-map_element, each-map}
use Rattle.relmove_plan.proofs.TreeAddsLemmas.{AreAddReady, CanAddAll, CanAddAll-ready, IsAddReady, adds-only, adds-stays, adds-there, after_adds, after_adds-whole, added_or}
use Rattle.relmove_plan.proofs.TreeRenamesLemmas.{AreReady, CanRenameAll, CanRenameAll-ready, IsReady, after_renames, after_renames-whole, carried-arrives, carried-only}
use Rattle.relmove_plan.proofs.FreeWaysLemmas as ways
use Rattle.relmove_plan.proofs.WaysLemmas.{carried-coming, get_or-coming, get_or-leaving, length-renames, renames-leaving}
use Rattle.relmove_plan.proofs.WholeTreesLemmas.{not_empty}
use Rattle.relmove_trees.specs.FileTrees.{Directory, IsUnder, IsWholeTree, Node, Place, Tree, names_of}
use Rattle.relmove_plan.proofs.RunWords.{CanRun, IsOpen, IsThereAfter, carried, rename_places, renames_of, IsThing}
use Rattle.relmove_plan.specs.WholeTrees.{IsAt}
use Rattle.relmove_steps.specs.Actions.{ActionTexts}
use Rattle.relmove_trees.proofs.FileTreesLemmas.{some_is}
use Rattle.relmove_plan.proofs.RunsLemmas.{carried-root}

-- a directory to make
abbrev pub made_at : List ℕ → Place × Node
made_at text = (names_of text, Directory)

-- a thing that is no entry and no new file keeps out of the way
pub record StaysAside (actions : ActionTexts) (made : List (List ℕ)) (place : Place) : Type 0 where
  pub aside : (k : ℕ) (step : Place × Place) → k < length (renames_of actions) → get_or (renames_of actions) k step ≡ step
      → carried (take k (renames_of actions)) place ≢ step.1
  pub unmade : (text : List ℕ) → Contains made text → carried (leaving actions) place ≢ names_of text

-- the tree has the entries and the new files, and what else it has keeps out of the way
pub record HasThings (entries : List Entry) (actions : ActionTexts) (made : List (List ℕ)) (tree : Tree) : Type 0 where
  pub whole_tree : IsWholeTree tree
  pub there : (place : Place) → IsThing entries actions place → IsSome (tree place)
  pub directories : (place : Place) → Any (IsAt true place) entries → tree place ≡ Some Directory
  pub only : (place : Place) → IsSome (tree place)
      → (place ≡ []) ⊎ (IsThing entries actions place ⊎ StaysAside actions made place)

module _ {entries : List Entry} {pages changed : List (List Step)} {moves : List Move} {rule : NameRule} {actions : ActionTexts}
    (run : IsKnownRun entries pages changed moves rule actions) (made : List (List ℕ)) (can : CanRun entries actions made)
    (tree : Tree) (has : HasThings entries actions made tree)
  where
    -- what the tree has doesn't come to where nothing is, unless it keeps out of the way
    none_at : (k : ℕ) (start place : Place) → IsSome (tree start) → carried (take k (renames_of actions)) start ≡ place
        → place ≢ [] → ¬ IsThereAfter entries actions k place → ¬ StaysAside actions made start → ⊥
    none_at k start place there comes some free aside = elim (has.only start there) [
      | inl root ↦
          some (sym comes ∙ ap (carried (take k (renames_of actions))) root
          ∙ carried-root (renames_of actions) k (carrying.root_clear run))
      | inr (inl thing) ↦ free (record { start = start; thing = thing; now = comes })
      | inr (inr is) ↦ aside is
    ]

    -- ---- things leave

    leaving_ready-at : (k : ℕ) (step : List ℕ × List ℕ) → k < length actions.staged → get_or actions.staged k step ≡ step
        → IsReady tree (leaving actions) k (rename_places step)
    leaving_ready-at k step within is = record {
      from = it.0.start;
      from_there = has.there it.0.start it.0.thing;
      from_is = sym (taken it.0.start) ∙ it.0.now;
      top = [];
      last = step.1;
      split = carrying.left_place run k step within is;
      holder = [];
      holder_there = has.whole_tree.root;
      holder_is = carried-root (leaving actions) k (carrying.root_left run);
      none = λ place some comes.
          none_at k place (names_of step.1) some (taken place ∙ comes)
          (λ none. not_empty [] step.1 [] (sym (carrying.left_place run k step within is) ∙ none)) it.1
          (λ aside. aside.aside k (rename_places step) total here (taken place ∙ comes));
      apart = λ under.
          carrying.clear run k step [] within is k (rename_places step) (rw length-map within)
          (subst (λ top. IsUnder top (get_or (leaving actions) k (rename_places step)).0) (sym (append-nil (names_of step.1)))
          (subst (λ (other : Place × Place). IsUnder (names_of step.1) other.0)
          (sym (get_or-map_element rename_places actions.staged k step (rename_places step) within is)) under));
    }
      where
        total : k < length (renames_of actions)
        total = omega (arith, within, length-renames actions)

        here : get_or (renames_of actions) k (rename_places step) ≡ rename_places step
        here = get_or-leaving actions k step (rename_places step) within is

        it : IsThereAfter entries actions k (names_of step.0) × (¬ IsThereAfter entries actions k (names_of step.1))
        it = can.clear k (rename_places step) total here

        taken : (place : Place) → carried (take k (renames_of actions)) place ≡ carried (take k (leaving actions)) place
        taken place = ap (λ renames. carried renames place) (renames-leaving actions k (omega (arith, within)))

    leaving_ready : AreReady tree (leaving actions)
    leaving_ready = each-map rename_places actions.staged (IsReady tree (leaving actions)) leaving_ready-at

    pub can_leave : CanRenameAll (leaving actions) tree
    can_leave = CanRenameAll-ready (leaving actions) tree has.whole_tree leaving_ready

    abbrev pub after_staging : Tree
    after_staging = after_renames (leaving actions) tree

    after_staging-whole : IsWholeTree after_staging
    after_staging-whole = after_renames-whole (leaving actions) tree has.whole_tree can_leave

    -- what was at the place is where it left to
    pub staging-arrives : (place : Place) → IsSome (tree place) → after_staging (carried (leaving actions) place) ≡ tree place
    staging-arrives place some = carried-arrives (leaving actions) tree can_leave place some

    -- ---- directories are made

    abbrev pub news : List (Place × Node)
    news = map made_at made

    making_ready-at : (k : ℕ) (text : List ℕ) → k < length made → get_or made k text ≡ text
        → IsAddReady after_staging news k (names_of text)
    making_ready-at k text within is = record {
      top = it.directory;
      last = it.last;
      split = it.split;
      held = held;
      none = none (after_staging (names_of text)) refl;
      unmade = unmade;
    }
      where
        it : IsOpen entries actions (take k made) 0 (names_of text)
        it = can.make k text within is

        none : (o : Option Node) → after_staging (names_of text) ≡ o → after_staging (names_of text) ≡ None
        none None is = is
        none (Some node) there =
            let some : IsSome (after_staging (names_of text)) = some_is (Some node) (after_staging (names_of text)) (sym there) refl in
            let (start, comes, same) = carried-only (leaving actions) tree (names_of text) some in
            absurd (none_at (length actions.staged + 0) start (names_of text) (some_is _ _ (sym same) some)
            (carried-coming actions 0 start ∙ comes) (λ none. not_empty it.directory it.last [] (sym it.split ∙ none)) it.free
            (λ aside. aside.unmade text (k, within, is) comes))

        long : length (take k made) ≡ k
        long = length-take-le k made (omega (arith, within))

        made_before : (j : ℕ) (other : List ℕ) (d : Place × Node) → j < length (take k made)
            → get_or (take k made) j other ≡ other
            → (j < k) × (get_or news j d ≡ made_at other)
        made_before j other d inside other_is =
            let less : j < k = omega (arith, inside, long) in
            let within_2 : j < length made = omega (arith, less, within) in
            (less, get_or-map_element made_at made j other d within_2 (sym (get_or-take k made j other less) ∙ other_is))

        held : (after_staging it.directory ≡ Some Directory)
            ⊎ ((j : ℕ) × (j < k) × (get_or news j (it.directory, Directory) ≡ (it.directory, Directory)))
        held = elim it.held [
          | inl root ↦ inl (ap after_staging root ∙ after_staging-whole.root)
          | inr (inl (start, at, comes)) ↦
              let here = has.directories start at in
              inl (ap after_staging (sym comes ∙ carried-coming actions 0 start)
              ∙ staging-arrives start (some_is _ _ (sym here) refl) ∙ here)
          | inr (inr (j, other, inside, other_is, there)) ↦
              let before = made_before j other (it.directory, Directory) inside other_is in
              inr (j, before.0, before.1 ∙ ap (λ place. (place, Directory)) there)
        ]

        unmade : (j : ℕ) (d : Place × Node) → j < k → names_of text ≢ (get_or news j d).0
        unmade j d less same =
            let inside : j < length (take k made) = omega (arith, less, long) in
            let (other, other_is) = element (take k made) j inside in
            let before = made_before j other d inside other_is in
            it.unmade
            (j, other, inside, other_is, sym (same ∙ ap (λ (new : Place × Node). new.0) before.1))

    making_ready : AreAddReady after_staging news
    making_ready = each-map made_at made (λ k new. IsAddReady after_staging news k new.0) making_ready-at

    pub can_make-all : CanAddAll news after_staging
    can_make-all = CanAddAll-ready news after_staging after_staging-whole making_ready

    abbrev pub after_making : Tree
    after_making = after_adds news after_staging

    after_making-whole : IsWholeTree after_making
    after_making-whole = after_adds-whole news after_staging after_staging-whole can_make-all

    -- ---- things come

    pub stays_there : (place : Place) → IsSome (tree place) → after_making (carried (leaving actions) place) ≡ tree place
    stays_there place some =
        adds-stays news after_staging can_make-all (carried (leaving actions) place)
        (some_is _ _ (sym (staging-arrives place some)) some) ∙ staging-arrives place some

    coming_ready-at : (m : ℕ) (step : List ℕ × List ℕ) → m < length actions.placed → get_or actions.placed m step ≡ step
        → IsReady after_making (coming actions) m (rename_places step)
    coming_ready-at m step within is = record {
      from = carried (leaving actions) it.0.start;
      from_there = some_is _ _ (sym (stays_there it.0.start (has.there it.0.start it.0.thing))) (has.there it.0.start it.0.thing);
      from_is = sym (carried-coming actions m it.0.start) ∙ it.0.now;
      top = open_at.directory;
      last = open_at.last;
      split = open_at.split;
      holder = holder.0;
      holder_there = holder.1;
      holder_is = holder.2;
      none = none;
      apart = apart;
    }
      where
        total : length actions.staged + m < length (renames_of actions)
        total = omega (arith, within, length-renames actions)

        here_2 : get_or (coming actions) m (rename_places step) ≡ rename_places step
        here_2 = get_or-map_element rename_places actions.placed m step (rename_places step) within is

        here : get_or (renames_of actions) (length actions.staged + m) (rename_places step) ≡ rename_places step
        here = get_or-coming actions m step (rename_places step) within is

        it : IsThereAfter entries actions (length actions.staged + m) (names_of step.0)
            × (¬ IsThereAfter entries actions (length actions.staged + m) (names_of step.1))
        it = can.clear (length actions.staged + m) (rename_places step) total here

        open_at : IsOpen entries actions made m (names_of step.1)
        open_at = can.come m step within is

        apart : ¬ IsUnder (names_of step.1) (names_of step.0)
        apart under =
            carrying.end_clear run (names_of step.1) (ways.end_free run m step within is) m (rename_places step) (rw length-map within)
            (subst (λ (other : Place × Place). IsUnder (names_of step.1) other.0) (sym here_2) under)

        root : carried (take m (coming actions)) [] ≡ []
        root = carried-root (coming actions) m (carrying.root_come run)

        holder : (holder : Place) × (after_making holder ≡ Some Directory)
            × (carried (take m (coming actions)) holder ≡ open_at.directory)
        holder = elim open_at.held [
          | inl top ↦ ([], after_making-whole.root, root ∙ sym top)
          | inr (inl (start, at, comes)) ↦
              let there = has.directories start at in (
                carried (leaving actions) start,
                stays_there start (some_is _ _ (sym there) refl) ∙ there,
                sym (carried-coming actions m start) ∙ comes,
              )
          | inr (inr (j, other, inside, other_is, there)) ↦ (
            names_of other,
            adds-there news after_staging can_make-all j (made_at other) (rw length-map inside)
                (get_or-map_element made_at made j other (made_at other) inside other_is),
            there,
          )
        ]

        none : (place : Place) → IsSome (after_making place) → carried (take m (coming actions)) place ≢ names_of step.1
        none place some comes = elim (added_or made_at made place) [
          | inl (j, other, inside, other_is, same) ↦
              open_at.unmade (j, other, inside, other_is, ap (carried (take m (coming actions))) same ∙ comes)
          | inr elsewhere ↦
              let there : IsSome (after_staging place) = some_is _ _ (adds-only news after_staging place elsewhere) some in
              let (start, comes_2, same) = carried-only (leaving actions) tree place there in
              let now = carried-coming actions m start ∙ ap (carried (take m (coming actions))) comes_2 ∙ comes in
              none_at (length actions.staged + m) start (names_of step.1) (some_is _ _ (sym same) there) now
              (λ none. not_empty open_at.directory open_at.last [] (sym open_at.split ∙ none)) it.1
              (λ aside. aside.aside (length actions.staged + m) (rename_places step) total here now)
        ]

    coming_ready : AreReady after_making (coming actions)
    coming_ready = each-map rename_places actions.placed (IsReady after_making (coming actions)) coming_ready-at

    pub can_come-all : CanRenameAll (coming actions) after_making
    can_come-all = CanRenameAll-ready (coming actions) after_making after_making-whole coming_ready

    -- ---- what the renames and the new directories make of the tree

    abbrev pub after_placing : Tree
    after_placing = after_renames (coming actions) after_making

    pub placing-whole : IsWholeTree after_placing
    placing-whole = after_renames-whole (coming actions) after_making after_making-whole can_come-all

    -- each thing is where the renames carry it
    pub after_placing-arrives : (place : Place) → IsSome (tree place)
        → after_placing (carried (renames_of actions) place) ≡ tree place
    after_placing-arrives place some =
        ap after_placing (carrying.carried-in_turn run place)
        ∙ carried-arrives (coming actions) after_making can_come-all (carried (leaving actions) place)
        (some_is _ _ (sym (stays_there place some)) some)
        ∙ stays_there place some

    -- and each directory that was made
    pub after_placing-made : (k : ℕ) (text : List ℕ) → k < length made → get_or made k text ≡ text
        → after_placing (carried (coming actions) (names_of text)) ≡ Some Directory
    after_placing-made k text within is =
        let there = adds-there news after_staging can_make-all k (made_at text) (rw length-map within)
        (get_or-map_element made_at made k text (made_at text) within is) in
        carried-arrives (coming actions) after_making can_come-all (names_of text) (some_is _ _ (sym there) refl) ∙ there

    -- and there is nothing else
    pub after_placing-only : (end : Place) → IsSome (after_placing end)
        → ((place : Place) × (carried (renames_of actions) place ≡ end) × (tree place ≡ after_placing end))
        ⊎ Any (λ text. carried (coming actions) (names_of text) ≡ end) made
    after_placing-only end some =
        let (mid, comes, same) = carried-only (coming actions) after_making end some in
        elim (added_or made_at made mid) [
          | inl (j, other, inside, other_is, same_2) ↦
              inr (j, other, inside, other_is, ap (carried (coming actions)) same_2 ∙ comes)
          | inr elsewhere ↦
              let there = adds-only news after_staging mid elsewhere in
              let (start, comes_2, same_2) =
              carried-only (leaving actions) tree mid (some_is _ _ (there) (some_is _ _ (sym same) some)) in
              inl (
                start,
                carrying.carried-in_turn run start ∙ ap (carried (coming actions)) comes_2 ∙ comes,
                same_2 ∙ sym there
                    ∙ same,
              )
        ]
