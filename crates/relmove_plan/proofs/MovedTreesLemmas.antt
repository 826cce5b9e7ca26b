-- A run ends in the tree after the moves.
use Rattle.std.proofs.Common.{Bool, false, ◌≡◌, ◌≢◌, ◌⊎◌, ℕ, suc, ◌<◌, List, [], ◌∷◌, ◌++◌, Contains, Some, None, IsSome, length, map, get_or, inl, inr, refl, sym, ap, subst, ◌∙◌, arith}
use Rattle.std.proofs.lemmas.List.{get_or_default, length-map}
use Rattle.std.proofs.lemmas.Slice.Zip.{AllZip-long}
use Rattle.std.specs.List.{Any}
use Rattle.relative_path.proofs.ForCallers.{IsSame-trans, walk-names}
use Rattle.relative_path.specs.Normalizing.{IsNormalTextOf}
use Rattle.relative_path.specs.Steps.{Step, components, name}
use Rattle.relative_path.specs.Walk.{place_of}
use Rattle.relative_path_moves.specs.Moves.{Move}
use Rattle.relative_path_places.specs.PlaceIndex.{IsNoneAt, path_at}
use Rattle.relmove_checks.proofs.ForCallers.{AllZip-at}
use Rattle.relmove_checks.specs.declared.entry.Entry.{Entry}
use Rattle.relmove_checks.specs.declared.name_rule.NameRule.{NameRule}
use Rattle.relmove_plan.proofs.ArrivalsLemmas as arrivals
use Rattle.relmove_plan.proofs.CarriedLemmas as carrying
use Rattle.relmove_plan.proofs.CarriedLemmas.{coming, leaving}
use Rattle.relmove_plan.proofs.ComingLemmas as destinations
use Rattle.relmove_plan.proofs.EndsLemmas as ends
use Rattle.relmove_plan.proofs.FreeWaysLemmas as ways
use Rattle.relmove_plan.proofs.KnownRunsLemmas.{IsKnownRun}
use Rattle.relmove_plan.proofs.MadeLemmas as directories
use Rattle.relmove_plan.proofs.NewTextsLemmas as texts
use Rattle.relmove_plan.proofs.NewTextsLemmas.{IsTreeOf}
use Rattle.relmove_plan.proofs.PlacesLemmas.{names_of-normal}
use Rattle.relmove_plan.proofs.RunsLemmas.{carried-elsewhere}
use Rattle.relmove_plan.proofs.SourcesLemmas.{element, first_of, get_or-map_element}
use Rattle.relmove_plan.proofs.TreeAddsLemmas.{adds-only, added_or}
use Rattle.relmove_plan.proofs.TreeRemovesLemmas.{AreFiles, IsAmong, after_removes, removes-none, Contains-among}
use Rattle.relmove_plan.proofs.TreeRenamesLemmas.{carried-one}
use Rattle.relmove_plan.proofs.TreeStagesLemmas as stages
use Rattle.relmove_plan.proofs.WaysLemmas as leaves
use Rattle.relmove_plan.proofs.WholeTreesLemmas.{IsSame-one_place, not_empty, some_of}
use Rattle.relmove_trees.specs.FileTrees.{Directory, File, Place, Tree, names_of, with_node}
use Rattle.relmove_plan.specs.MovedTrees.{AreTakenTo, IsAboveNew, IsMoved}
use Rattle.relmove_plan.proofs.RunWords.{DirectoriesArrive, IsMadeFor, carried, renames_of, CanRun}
use Rattle.relmove_plan.specs.WholeTrees.{IsAt}
use Rattle.relmove_steps.specs.Actions.{ActionTexts, Carries, LeavesFrom, placed_names, of_move, of_page, of_text}
use Rattle.relmove_trees.proofs.FileTreesLemmas.{place_or, some_is, some_none, with_node-at, with_node-elsewhere}
use Rattle.relmove_plan.proofs.TakenLemmas.{AreTakenTo-only}
use Rattle.std.proofs.lemmas.List.Elements.{Contains-append_right}
use Rattle.relative_path_places.proofs.ForCallers.{IsNormalTextOf-same}

-- ---- lists

pub IsAmong-map : {X : Type 0} (f : X → Place) (xs : List X) (place : Place) → IsAmong (map f xs) place
    → (x : X) × Contains xs x × (place ≡ f x)
IsAmong-map f [] place among = absurd among
IsAmong-map f (x ∷ xs) place (inl same) = (x, (0, omega arith, refl), same)
IsAmong-map f (x ∷ xs) place (inr among) =
    let (y, (k, within, is), same) = IsAmong-map f xs place among in (y, (suc k, omega (arith, within), is), same)

among_or : (places : List Place) (place : Place) → IsAmong places place ⊎ (¬ IsAmong places place)
among_or [] place = inr (λ among. among)
among_or (first ∷ places) place = by (place_or place first) (among_or places place)
  where
    by : (place ≡ first) ⊎ (place ≢ first) → IsAmong places place ⊎ (¬ IsAmong places place)
        → IsAmong (first ∷ places) place ⊎ (¬ IsAmong (first ∷ places) place)
    by (inl same) rest = inl (inl same)
    by (inr differ) (inl among) = inl (inr among)
    by (inr differ) (inr none) = inr (λ among. elim among [ inl same ↦ differ same | inr is ↦ none is ])

removes-kept : (places : List Place) (tree : Tree) (other : Place) → ¬ IsAmong places other
    → after_removes places tree other ≡ tree other
removes-kept [] tree other none = refl
removes-kept (place ∷ places) tree other none =
    removes-kept places _ other (λ among. none (inr among))
    ∙ with_node-elsewhere place None tree other (λ same. none (inl same))

removes-among : (places : List Place) (tree : Tree) (other : Place) → IsAmong places other → after_removes places tree other ≡ None
removes-among [] tree other among = absurd among
removes-among (place ∷ places) tree other (inl same) =
    removes-none places (with_node place None tree) other
    (ap (with_node place None tree) same ∙ with_node-at place None tree)
removes-among (place ∷ places) tree other (inr among) = removes-among places (with_node place None tree) other among

-- the tree with the new texts of the pages that change
pub record HasNewTexts (changed : List (List Step)) (actions : ActionTexts) (start now : Tree) : Type 0 where
  pub written : (new : List ℕ × List ℕ × List ℕ) → Contains actions.texts new → (c : ℕ) → c < length changed
      → IsNormalTextOf (path_at changed c) new.0 → (place : Place) → place_of (path_at changed c) ≡ Some place
      → now place ≡ Some (File new.2)
  pub others : (place : Place) → IsNoneAt changed (map name place) → now place ≡ start place

-- the actions can be done on the first tree, and the second is the first with the new texts
pub record IsRunOn (entries : List Entry) (moves : List Move) (changed after : List (List Step)) (actions : ActionTexts)
    (made : List (List ℕ)) (start now : Tree) : Type 0 where
  pub can : CanRun entries actions made
  pub arrive : DirectoriesArrive moves after actions made
  pub of : IsTreeOf entries moves changed actions made start
  pub now_is : HasNewTexts changed actions start now

module _ {entries : List Entry} {pages changed : List (List Step)} {moves : List Move} {rule : NameRule} {actions : ActionTexts}
    (run : IsKnownRun entries pages changed moves rule actions) (made : List (List ℕ)) (start now : Tree)
    (on : IsRunOn entries moves changed (map components run.accepted.apart.after) actions made start now)
  where
    abbrev pub written : Tree
    written = texts.written run made start on.of

    abbrev has : stages.HasThings entries actions made written
    has = texts.has_things run made start on.of

    abbrev pub after_placing : Tree
    after_placing = stages.after_placing run made on.can written has

    arrives : (place : Place) → IsSome (written place) → after_placing (carried (renames_of actions) place) ≡ written place
    arrives place some =
        stages.after_placing-arrives run made on.can written has place some

    -- two things don't come to one place
    come_one : (one other : Place) → IsSome (written one) → IsSome (written other)
        → carried (renames_of actions) one ≡ carried (renames_of actions) other → one ≡ other
    come_one one other some some_2 same =
        let stay = stages.stays_there run made on.can written has in
        carried-one (leaving actions) written (stages.can_leave run made on.can written has) one other some some_2
        (carried-one (coming actions) (stages.after_making run made on.can written has)
        (stages.can_come-all run made on.can written has)
        (carried (leaving actions) one) (carried (leaving actions) other)
        (some_is _ _ (sym (stay one some)) some) (some_is _ _ (sym (stay other some_2)) some_2)
        (sym (carrying.carried-in_turn run one) ∙ same ∙ carrying.carried-in_turn run other))

    entry_written : (b : Bool) (place : Place) → Any (IsAt b place) entries → IsSome (written place)
    entry_written b place at = has.there place (inl (b, at))

    -- ---- the old texts are removed

    -- what is carried isn't removed
    kept-carries : (from staging to : List ℕ) → Contains actions.staged (from, staging) → Carries actions from to
        → ¬ Contains actions.removed staging
    kept-carries from staging to left carries gone =
        let same : carries.staging ≡ staging = destinations.left_one run from carries.staging staging carries.leaves left in
        destinations.come_kept run carries.staging to carries.comes (subst (Contains actions.removed) (sym same) gone)

    -- what is removed leaves there from a page that changes
    pub removed_page : (r : List ℕ) → Contains actions.removed r
        → (from : List ℕ) × Contains actions.staged (from, r) × (c : ℕ) × (c < length changed)
        × IsNormalTextOf (path_at changed c) from
    removed_page r gone =
        let (i, step, inside, is, r_is) = leaves.left_to run r (Contains-append_right (placed_names actions) actions.removed r gone) in
        by step.0 (i, inside, get_or_default actions.staged i (step.0, r) step inside ∙ is ∙ ap (λ r. (step.0, r)) r_is)
        (leaves.leaves run i step inside is)
      where
        by : (from : List ℕ) → Contains actions.staged (from, r) → LeavesFrom moves changed actions.texts from
            → (from : List ℕ) × Contains actions.staged (from, r) × (c : ℕ) × (c < length changed)
            × IsNormalTextOf (path_at changed c) from
        by from left (of_page c inside normal) = (from, left, c, inside, normal)
        by from left (of_text old text has) =
            let (c, inside, old_of, to, carries, goes) = destinations.file_carries run (old, from, text) has in
            absurd (kept-carries from r to left carries gone)
        by from left (of_move m inside normal) =
            elim (destinations.move_or run m inside) [
              | inl carries ↦
                  let here : from ≡ carries.old = carries.old_of.only from normal.normal_text normal.same in
                  absurd (kept-carries from r carries.new left
                  (subst (λ old. Carries actions old carries.new) (sym here) carries.carries) gone)
              | inr (k, within, same) ↦
                  (from, left, k, within, IsNormalTextOf-same (path_at changed k) from normal.normal_text (IsSame-trans same normal.same))
            ]

    -- a name as a place
    pub name_at : (from r : List ℕ) → Contains actions.staged (from, r) → names_of r ≡ r ∷ []
    name_at from r (i, within, is) = carrying.left_place run i (from, r) within is

    -- it comes to there, and stays
    carried-removed : (from r : List ℕ) → Contains actions.staged (from, r) → Contains actions.removed r
        → carried (renames_of actions) (names_of from) ≡ names_of r
    carried-removed from r left gone =
        ways.carried-removed run from (record { staging = r; leaves = left; removed = gone }) ∙ sym (name_at from r left)

    abbrev pub gone_places : List Place
    gone_places = map names_of actions.removed

    -- what is at a place that is removed was at a page that changes
    gone_page : (place : Place) → IsAmong gone_places place
        → (page : Place) × (c : ℕ) × (c < length changed) × (place_of (path_at changed c) ≡ Some page)
        × (carried (renames_of actions) page ≡ place)
    gone_page place among =
        let (r, gone, same) = IsAmong-map names_of actions.removed place among in
        let (from, left, c, inside, normal) = removed_page r gone in
        let file = run.files c [] inside in
        let here : names_of from ≡ file.place = names_of-normal (path_at changed c) from file.place normal file.leads in (
          file.place,
          c,
          inside,
          file.leads,
          ap (carried (renames_of actions)) (sym here) ∙ carried-removed from r left gone ∙ sym same,
        )

    page_written : (c : ℕ) → c < length changed → (place : Place) → place_of (path_at changed c) ≡ Some place
        → IsSome (written place)
    page_written c inside place leads =
        let file = run.files c [] inside in
        let here : file.place ≡ place = some_of (sym file.leads ∙ leads) in
        entry_written false place (subst (λ place. Any (IsAt false place) entries) here file.file)

    pub gone_files : AreFiles gone_places after_placing
    gone_files place among =
        let (page, c, inside, leads, comes) = gone_page place among in
        let (bytes, is) = on.of.pages c inside page leads in (
          bytes,
          ap after_placing (sym comes) ∙ arrives page (page_written c inside page leads)
              ∙ texts.written-stays run made start on.of page (some_is _ _ (sym is) refl) ∙ is,
        )

    abbrev pub moved : Tree
    moved = after_removes gone_places after_placing

    -- what comes from elsewhere isn't removed
    comes_kept : (from to : Place) → IsSome (written from) → carried (renames_of actions) from ≡ to
        → ((c : ℕ) → c < length changed → place_of (path_at changed c) ≢ Some from) → moved to ≡ written from
    comes_kept from to some comes none =
        removes-kept gone_places after_placing to
        (λ among.
        let (page, c, inside, leads, comes_2) = gone_page to among in
        let same : from ≡ page = come_one from page some (page_written c inside page leads) (comes ∙ sym comes_2) in
        none c inside (leads ∙ ap Some (sym same)))
        ∙ ap after_placing (sym comes) ∙ arrives from some

    -- ---- what arrives

    root_carried : carried (renames_of actions) [] ≡ []
    root_carried = carried-elsewhere (renames_of actions) [] (carrying.root_clear run)

    -- an entry that isn't a page that changes
    entry_comes : (b : Bool) (from : Place) → Any (IsAt b from) entries → IsNoneAt changed (map name from) → (to : Place)
        → AreTakenTo moves from to → carried (renames_of actions) from ≡ to
    entry_comes b from at none to (target, is, there) =
        arrivals.carried-target run (map name from) from (walk-names [] from) (arrivals.IsMovedAlong-entry run b from at none) target is
        to there

    file_kept : (new : List ℕ × List ℕ × List ℕ) → Contains actions.texts new → (c : ℕ) → c < length changed
        → place_of (path_at changed c) ≢ Some (names_of new.1)
    file_kept new has c inside leads =
        let file = run.files c [] inside in
        (texts.file_at run new has).unused false
        (subst (λ place. Any (IsAt false place) entries) (some_of (sym file.leads ∙ leads)) file.file)

    one_taken : (from one other : Place) → AreTakenTo moves from one → AreTakenTo moves from other → one ≡ other
    one_taken from one other = AreTakenTo-only moves from one other run.accepted.apart.come.leave.apart

    pub moved-arrives : (from to : Place) → IsSome (now from) → AreTakenTo moves from to → moved to ≡ now from
    moved-arrives from to some taken = by (destinations.changed_or run from)
      where
        by : IsNoneAt changed (map name from) ⊎ ((c : ℕ) × (c < length changed) × (place_of (path_at changed c) ≡ Some from))
            → moved to ≡ now from
        by (inr (c, inside, leads)) =
            let one = run.replaced c [] inside in
            let new : List ℕ × List ℕ × List ℕ = (one.old, one.file, one.text) in
            let there = texts.written-there run made start on.of new one.written in
            comes_kept (names_of one.file) to (some_is _ _ (sym there) refl)
            (one_taken from (carried (renames_of actions) (names_of one.file)) to
            (ways.text_comes run c inside from leads one.file one.to one.carries one.goes) taken)
            (file_kept new one.written) ∙ there ∙ sym (on.now_is.written new one.written c inside one.old_of from leads)
        by (inl none) =
            let same = on.now_is.others from none in
            let some_2 : IsSome (start from) = some_is _ _ same some in
            let stays = texts.written-stays run made start on.of from some_2 in
            let comes : carried (renames_of actions) from ≡ to = elim (on.of.only from some_2) [
              | inl root ↦
                  ap (carried (renames_of actions)) root ∙ root_carried
                  ∙ one_taken [] [] to (arrivals.AreTakenTo-root run) (subst (λ place. AreTakenTo moves place to) root taken)
              | inr (inl (b, at)) ↦ entry_comes b from at none to taken
              | inr (inr aside) ↦ aside.carries ∙ one_taken from aside.to to aside.taken taken
            ] in
            comes_kept from to (some_is _ _ (sym stays) some_2) comes
            (λ c inside leads. none c inside (IsSame-one_place from (walk-names [] from) leads))
            ∙ stays ∙ sym same

    -- ---- directories above new paths

    directory_kept : (place : Place) → after_placing place ≡ Some Directory → moved place ≡ Some Directory
    directory_kept place is =
        removes-kept gone_places after_placing place
        (λ among. let (bytes, file) = gone_files place among in absurd (let e = sym is ∙ file in cc e))
        ∙ is

    pub moved-made : (place : Place) → IsAboveNew moves place → moved place ≡ Some Directory
    moved-made place (k, within, n, rest, leads) = directory_kept place (by (place_or place []))
      where
        missing : place ≢ [] → IsNoneAt (map components run.accepted.apart.after) (map name place)
            → after_placing place ≡ Some Directory
        missing some none =
            let (text, (i, inside, is), normal_2) = on.arrive.are_missing.complete (map name place)
            (directories.IsMissing-above run (map components run.accepted.apart.after) k within place (n ∷ rest) leads some
            (not_empty [] n rest) none) in
            let for_it = AllZip-at (IsMadeFor actions) on.arrive.missing made i text [] on.arrive.arrive inside in
            let long = AllZip-long (IsMadeFor actions) on.arrive.missing made on.arrive.arrive in
            let inside_2 : i < length made = omega (arith, inside, long) in
            let (path, path_is) = element made i inside_2 in
            let path_is_2 : get_or made i [] ≡ path = get_or_default made i [] path inside_2 ∙ path_is in
            let named : names_of text ≡ place = names_of-normal (map name place) text place normal_2 (walk-names [] place) in
            ap after_placing
            (sym (ap (λ path. carried (coming actions) (names_of path)) (sym path_is_2) ∙ for_it ∙ ap names_of is ∙ named))
            ∙ stages.after_placing-made run made on.can written has i path inside_2 path_is

        by : (place ≡ []) ⊎ (place ≢ []) → after_placing place ≡ Some Directory
        by (inl root) = ap after_placing root ∙ (stages.placing-whole run made on.can written has).root
        by (inr some) = elim (ends.above-new run k within place (n ∷ rest) leads some (not_empty [] n rest)) [
          | inl none ↦ missing some none
          | inr to ↦
              let is = has.directories to.start (to.number, to.entry, to.within, to.is, to.at) in
              ap after_placing (sym (ends.carried-to run place to)) ∙ arrives to.start (some_is _ _ (sym is) refl) ∙ is
        ]

    -- ---- nothing else

    pub moved-only : (to : Place) → IsSome (moved to)
        → ((from : Place) × IsSome (now from) × AreTakenTo moves from to) ⊎ IsAboveNew moves to
    moved-only to some = elim (among_or gone_places to) [
      | inl among ↦ absurd (some_none (moved to) some (removes-among gone_places after_placing to among))
      | inr kept ↦
          joins kept
          (stages.after_placing-only run made on.can written has to
          (some_is _ _ (removes-kept gone_places after_placing to kept) some))
    ]
      where
        page : (c : ℕ) (from : Place) → c < length changed → place_of (path_at changed c) ≡ Some from
            → carried (renames_of actions) from ≡ to → ¬ IsAmong gone_places to → ⊥
        page c from inside leads comes kept =
            let removes = run.removed c [] inside in
            let here : names_of removes.old ≡ from = names_of-normal (path_at changed c) removes.old from removes.old_of leads in
            let staging = removes.removes.staging in
            let (k, within, is) = removes.removes.removed in
            kept
            (subst (IsAmong gone_places)
            (sym (carried-removed removes.old staging removes.removes.leaves removes.removes.removed)
            ∙ ap (carried (renames_of actions)) here ∙ comes)
            (Contains-among gone_places (names_of staging)
            (k, rw length-map within, get_or-map_element names_of actions.removed k staging (names_of staging) within is)))

        unchanged : (from : Place) → IsSome (start from) → IsNoneAt changed (map name from) → carried (renames_of actions) from ≡ to
            → (from : Place) × IsSome (now from) × AreTakenTo moves from to
        unchanged from there none comes =
            let now_there : IsSome (now from) = some_is _ _ (sym (on.now_is.others from none)) there in
            elim (on.of.only from there) [
              | inl root ↦ (
                from,
                now_there,
                subst (λ place. AreTakenTo moves place to) (sym root)
                    (subst (AreTakenTo moves []) (sym root_carried ∙ ap (carried (renames_of actions)) (sym root) ∙ comes)
                    (arrivals.AreTakenTo-root run)),
              )
              | inr (inl (b, at)) ↦
                  let (place, taken) = ends.entry_taken run b from at in
                  (from, now_there, subst (AreTakenTo moves from) (sym (entry_comes b from at none place taken) ∙ comes) taken)
              | inr (inr aside) ↦ (from, now_there, subst (AreTakenTo moves from) (sym aside.carries ∙ comes) aside.taken)
            ]

        file : (from : Place) → Any (λ new. names_of new.1 ≡ from) actions.texts → carried (renames_of actions) from ≡ to
            → (from : Place) × IsSome (now from) × AreTakenTo moves from to
        file from (t, new, within, is, named) comes =
            let (c, inside, old_of, path, carries, goes) = destinations.file_carries run new (t, within, is) in
            let page_file = run.files c [] inside in (
              page_file.place,
              some_is _ _ (sym (on.now_is.written new (t, within, is) c inside old_of page_file.place page_file.leads)) refl,
              subst (AreTakenTo moves page_file.place) (ap (carried (renames_of actions)) named ∙ comes)
                  (ways.text_comes run c inside page_file.place page_file.leads new.1 path carries goes),
            )

        joins : ¬ IsAmong gone_places to
            → ((place : Place) × (carried (renames_of actions) place ≡ to) × (written place ≡ after_placing to))
            ⊎ Any (λ text. carried (coming actions) (names_of text) ≡ to) made
            → ((from : Place) × IsSome (now from) × AreTakenTo moves from to) ⊎ IsAboveNew moves to
        joins kept (inr (i, text, within, is, comes)) =
            let (directory, at, arrives) =
            directories.missing-made run (map components run.accepted.apart.after) made on.arrive i text within is in
            let (n, rest, rest_is) = first_of at.rest at.some_rest in
            inr (
              at.move,
              at.within,
              n,
              rest,
              at.new ∙ ap Some (ap (λ top. top ++ at.rest) (sym arrives ∙ comes) ∙ ap (λ rest. to ++ rest) rest_is),
            )
        joins kept (inl (from, comes, same)) =
            let there : IsSome (written from) =
            some_is _ _ (sym (same ∙ sym (removes-kept gone_places after_placing to kept))) some in
            elim (added_or texts.text_at actions.texts from) [
              | inl is_file ↦ inl (file from is_file comes)
              | inr none ↦
                  let there_2 : IsSome (start from) = some_is _ _ (adds-only (texts.files run made start on.of) start from none) there in
                  elim (destinations.changed_or run from) [
                    | inl not ↦ inl (unchanged from there_2 not comes)
                    | inr (c, inside, leads) ↦ absurd (page c from inside leads comes kept)
                  ]
            ]

    -- the tree is that after the moves
    pub is_moved : IsMoved moves now moved
    is_moved = record { arrives = moved-arrives; made = moved-made; only = moved-only }
