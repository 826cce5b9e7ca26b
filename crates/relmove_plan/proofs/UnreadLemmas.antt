-- What a tree has besides its entries keeps out of the way of a run, and comes to where the moves take it.
use Rattle.std.proofs.Common.{Bool, true, false, true≢false, ◌≡◌, ◌≢◌, ◌⊎◌, ℕ, ◌<◌, List, [], ◌∷◌, ◌++◌, Contains, Some, None, IsSome, length, map, take, get_or, inl, inr, refl, sym, ap, subst, ◌∙◌, append-nil, append_assoc, arith}
use Rattle.std.proofs.lemmas.Bool.{cases_lt, false≢true}
use Rattle.std.proofs.lemmas.List.Elements.{Contains-append_left, Contains-append_right}
use Rattle.std.proofs.lemmas.List.{length-append, map-append, append_cancel_left}
use Rattle.std.specs.List.{Any}
use Rattle.relative_path.proofs.ForCallers.{components-place, walk-names}
use Rattle.relative_path.specs.Steps.{Step, components, name}
use Rattle.relative_path.specs.Walk.{IsSame, place_of}
use Rattle.relative_path_moves.proofs.ForCallers.{AtTreePath-same}
use Rattle.relative_path_moves.specs.Moves.{Move, move_at}
use Rattle.relative_path_moves.specs.TreeMoves.{IsLeftInPlace, IsNearest, IsTreePath, TakesAlong}
use Rattle.relative_path_places.specs.PlaceIndex.{path_at}
use Rattle.relmove_checks.specs.Trees.{HasAt, is_directory, is_unread}
use Rattle.relmove_checks.specs.declared.entry.Entry.{Entry}
use Rattle.relmove_checks.specs.declared.name_rule.NameRule.{NameRule}
use Rattle.relmove_plan.proofs.ArrivalsLemmas as arrivals
use Rattle.relmove_plan.proofs.CarriedLemmas as carrying
use Rattle.relmove_plan.proofs.CarriedLemmas.{coming, leaving}
use Rattle.relmove_plan.proofs.ComingLemmas.{IsDestination}
use Rattle.relmove_plan.proofs.EndsLemmas as ends
use Rattle.relmove_plan.proofs.FreeWaysLemmas as ways
use Rattle.relmove_plan.proofs.KnownRunsLemmas.{IsKnownRun}
use Rattle.relmove_plan.proofs.MadeLemmas as directories
use Rattle.relmove_plan.proofs.NewTextsLemmas.{IsAside}
use Rattle.relmove_plan.proofs.PlacesLemmas.{names_of-normal}
use Rattle.relmove_plan.proofs.RunsLemmas.{IsUnder-shorter}
use Rattle.relmove_plan.proofs.TreeRenamesLemmas.{HasNothing-none}
use Rattle.relmove_plan.proofs.WaysLemmas as leaves
use Rattle.relmove_plan.proofs.WaysLemmas.{carried-coming, each-rename, renames-leaving}
use Rattle.relmove_plan.proofs.WholeTreesLemmas.{HasDirectoryAt-above, IsAt-one, IsAt-some, IsSame-one_place, LeadsToFile-under, not_empty, map_none, some_append, some_of, front_none}
use Rattle.relmove_checks.specs.declared.entry.Kind.{Kind}
use Rattle.relmove_checks.specs.declared.entry.Kind.TheVariants.{Directory, File, Symlink}
use Rattle.relmove_trees.specs.FileTrees.{IsUnder, IsWholeTree, Place, Tree, names_of}
use Rattle.relmove_plan.specs.KnownTrees.{IsBelowUnread, IsUnread, IsUnreadAt}
use Rattle.relmove_plan.specs.MovedTrees.{AreTakenTo}
use Rattle.relmove_plan.proofs.RunWords.{carried, renames_of, DirectoriesArrive}
use Rattle.relmove_plan.specs.WholeTrees.{HasDirectoryAt, IsAt, LeadsToFile}
use Rattle.relmove_steps.specs.Actions.{ActionTexts, LeavesFrom, staged_names, of_move, of_page, of_text}
use Rattle.relmove_trees.proofs.FileTreesLemmas.{place_or, some_none}
use Rattle.relmove_plan.proofs.TakenLemmas.{takes-more, IsLeftInPlace-above, AreTakenTo-only, IsTakenTo-above}

-- an unread directory is a directory
directory_of : (entries : List Entry) (place : Place) → Any (IsUnreadAt place) entries → HasDirectoryAt entries place
directory_of entries place (e, entry, within, is, at) = (e, entry, within, is, record { kind = by entry.kind at.kind; leads = at.leads })
  where
    by : (kind : Kind) → is_unread kind ≡ true → is_directory kind ≡ true
    by File unread = absurd (false≢true unread)
    by (Directory foreign read) unread = refl
    by (Symlink path) unread = absurd (false≢true unread)

-- what isn't read is in the root or in a directory of the tree
held_by : (entries : List Entry) (moves : List Move) (top : Place) (n : List ℕ) → IsUnread entries moves top n
    → (top ≡ []) ⊎ HasDirectoryAt entries top
held_by entries moves top n unread = elim unread.hidden [
  | inl at ↦ inr (directory_of entries top at)
  | inr (held, out_of_the_way) ↦ held
]

module _ {entries : List Entry} {pages changed : List (List Step)} {moves : List Move} {rule : NameRule} {actions : ActionTexts}
    (run : IsKnownRun entries pages changed moves rule actions) (made : List (List ℕ))
    (arrive : DirectoriesArrive moves (map components run.accepted.apart.after) actions made)
    (start : Tree) (whole_tree : IsWholeTree start)
    (no_name : (r : List ℕ) → Contains (staged_names actions) r → start (r ∷ []) ≡ None)
    (no_file : (new : List ℕ × List ℕ × List ℕ) → Contains actions.texts new → start (names_of new.1) ≡ None)
    (place : Place) (there : IsSome (start place)) (it : IsBelowUnread entries moves place)
  where
    abbrev u : Place
    u = it.top ++ it.n ∷ []

    place_is : place ≡ it.top ++ it.n ∷ it.rest
    place_is = it.split ∙ append_assoc it.top (it.n ∷ []) it.rest

    -- nothing that is free is at or above the place
    pub not_free : (free : Place) → start free ≡ None → ¬ IsUnder place free
    not_free free none (rest, is) = some_none (start place) there (ap start is ∙ HasNothing-none start whole_tree free none rest)

    -- no entry is at the name or below
    pub no_entry : (b : Bool) (q rest : Place) → Any (IsAt b q) entries → q ≡ u ++ rest → ⊥
    no_entry b q [] at is = it.unread.none b (subst (λ q. Any (IsAt b q) entries) (is ∙ append-nil u) at)
    no_entry b q (m ∷ rest) at is =
        it.unread.none true
        (HasDirectoryAt-above entries pages run.whole b u m rest (not_empty it.top it.n []) (subst (λ q. Any (IsAt b q) entries) is at))

    -- an entry at what is below the name, or above that, is at the top or above it
    entry_above : (b : Bool) (q below rest : Place) → Any (IsAt b q) entries → it.top ++ it.n ∷ rest ≡ q ++ below
        → (more : Place) × (it.top ≡ q ++ more) × (below ≡ more ++ it.n ∷ rest)
    entry_above b q below rest at is = elim (cases_lt (length it.top) (length q)) [
      | inl less ↦
          let long = length-append it.top (it.n ∷ []) in
          let (more, under) =
          IsUnder-shorter (it.top ++ it.n ∷ rest) u q (rest, sym (append_assoc it.top (it.n ∷ []) rest)) (below, is)
          (omega (arith, long, less)) in
          absurd (no_entry b q more at under)
      | inr fine ↦
          let (more, under) =
          IsUnder-shorter (it.top ++ it.n ∷ rest) q it.top (below, is) (it.n ∷ rest, refl) (omega (arith, fine)) in (
            more,
            under,
            append_cancel_left q below (more ++ it.n ∷ rest)
                (sym is ∙ ap (λ top. top ++ it.n ∷ rest) under ∙ append_assoc q more (it.n ∷ rest)),
          )
    ]

    -- no page is at the place or above it
    pub not_page : {cs : List Step} (file : LeadsToFile entries cs) → ¬ IsUnder place file.place
    not_page {cs} file (below, under) =
        let (more, top_is, below_is) = entry_above false file.place below it.rest file.file (sym place_is ∙ under) in
        elim (held_by entries moves it.top it.n it.unread) [
          | inl root ↦
              IsAt-some entries pages run.whole false file.place file.file (front_none file.place more (sym root ∙ top_is))
          | inr at ↦
              let same = LeadsToFile-under entries pages run.whole cs true it.top file at (more, top_is) in
              true≢false (IsAt-one entries pages run.whole true false it.top at
              (subst (λ q. Any (IsAt false q) entries) (sym same) file.file))
        ]

    -- what leaves from the place or from above it is moved
    leaves_under : (i : ℕ) (step : List ℕ × List ℕ) → i < length actions.staged → get_or actions.staged i step ≡ step
        → (below : Place)
        → place ≡ names_of step.0 ++ below → (k : ℕ) × TakesAlong moves place k below
    leaves_under i step within is below under = by (leaves.leaves run i step within is)
      where
        by : LeavesFrom moves changed actions.texts step.0 → (k : ℕ) × TakesAlong moves place k below
        by (of_move k inside normal) =
            let (b, q, leads, at) = carrying.old_place run k inside in
            let here : names_of step.0 ≡ q = names_of-normal (move_at moves k).old step.0 q normal leads in
            (k, record { within = inside; top = q; old = leads; down = under ∙ ap (λ top. top ++ below) here })
        by (of_page c inside normal) =
            let file = run.files c [] inside in
            let here : names_of step.0 ≡ file.place = names_of-normal (path_at changed c) step.0 file.place normal file.leads in
            absurd (not_page file (below, under ∙ ap (λ top. top ++ below) here))
        by (of_text old text has) = absurd (not_free (names_of step.0) (no_file (old, step.0, text) has) (below, under))

    -- ---- where the moves take it

    -- what takes along what is below the name takes the top along
    takes_top : (k : ℕ) (below rest : Place) → TakesAlong moves (it.top ++ it.n ∷ rest) k below
        → (more : Place) × TakesAlong moves it.top k more × (below ≡ more ++ it.n ∷ rest)
    takes_top k below rest takes =
        let (b, at) = carrying.old_entry run k takes.within takes.top takes.old in
        let (more, top_is, below_is) = entry_above b takes.top below rest at takes.down in
        (more, record { within = takes.within; top = takes.top; old = takes.old; down = top_is }, below_is)

    nearest_top : (j : ℕ) (below rest : Place) → IsNearest moves it.top j below
        → IsNearest moves (it.top ++ it.n ∷ rest) j (below ++ it.n ∷ rest)
    nearest_top j below rest nearest = record {
      takes = takes-more moves it.top (it.top ++ it.n ∷ rest) (it.n ∷ rest) below j nearest.takes refl;
      nearest = λ k others takes.
          let (more, takes_2, is) = takes_top k others rest takes in
          let least = nearest.nearest k more takes_2 in
          let long = length-append below (it.n ∷ rest) in
          let long_2 = ap length is ∙ length-append more (it.n ∷ rest) in
          omega (arith, least, long, long_2);
    }

    -- only moves carry it along
    moved_along : arrivals.IsMovedAlong entries changed moves actions place
    moved_along = record {
      leaves = leaves_under;
      page = λ k within file. not_page file;
      comes = carrying.placed_clear run place
          (λ step (m, within, is) under.
          not_free (step.0 ∷ []) (no_name step.0 (carrying.come_name run m step within is)) under);
    }

    -- where the moves take the top
    top_taken : (to : Place) × AreTakenTo moves it.top to
    top_taken = elim (held_by entries moves it.top it.n it.unread) [
      | inl root ↦ ([], subst (λ top. AreTakenTo moves top []) (sym root) (arrivals.AreTakenTo-root run))
      | inr at ↦ ends.entry_taken run true it.top at
    ]

    -- they take what is below it by the name along
    place_taken : (rest to : Place) → AreTakenTo moves it.top to → AreTakenTo moves (it.top ++ it.n ∷ rest) (to ++ it.n ∷ rest)
    place_taken rest to (target, inr (left, same), leads) =
        (map name whole, inr (left_2, refl), walk-names [] whole ∙ ap (λ top. Some (top ++ it.n ∷ rest)) top_is)
      where
        whole : Place
        whole = it.top ++ it.n ∷ rest

        top_is : it.top ≡ to
        top_is = some_of (sym (walk-names [] it.top) ∙ sym (ap place_of same) ∙ leads)

        left_2 : IsLeftInPlace moves (map name whole)
        left_2 q j below leads_2 takes =
            let here : q ≡ whole = some_of (sym leads_2 ∙ walk-names [] whole) in
            let (others, takes_2, is) = takes_top j below rest (subst (λ q. TakesAlong moves q j below) here takes) in
            left it.top j others (walk-names [] it.top) takes_2
    place_taken rest to (target, inl taken, leads) = (
      (move_at moves j).new ++ map name all,
      inl (record {
        place = it.top ++ it.n ∷ rest;
        leads = walk-names [] (it.top ++ it.n ∷ rest);
        move = j;
        below = all;
        nearest = nearest_top j taken.below rest
            (subst (λ q. IsNearest moves q j taken.below) (some_of (sym taken.leads ∙ walk-names [] it.top)) taken.nearest);
        new = refl;
      }),
      arrivals.place-below run (move_at moves j).new new.top all new.leads ∙ ap Some end_is,
    )
      where
        j : ℕ
        j = taken.move

        all : Place
        all = taken.below ++ it.n ∷ rest

        new : arrivals.IsNewPlace moves target j taken.below
        new = arrivals.taken_place run (map name it.top) target taken

        end_is : new.top ++ all ≡ to ++ it.n ∷ rest
        end_is =
            sym (append_assoc new.top taken.below (it.n ∷ rest))
            ∙ ap (λ top. top ++ it.n ∷ rest) (some_of (sym new.arrives ∙ leads))

    abbrev top_end : Place
    top_end = top_taken.0

    abbrev end : Place
    end = top_end ++ it.n ∷ it.rest

    end_taken : AreTakenTo moves place end
    end_taken = subst (λ place. AreTakenTo moves place end) (sym place_is) (place_taken it.rest top_end top_taken.1)

    -- the renames carry it there
    carries : carried (renames_of actions) place ≡ end
    carries =
        let (target, is, leads) = end_taken in
        arrivals.carried-target run (map name place) place (walk-names [] place) moved_along target is end leads

    one_taken : (from one other : Place) → AreTakenTo moves from one → AreTakenTo moves from other → one ≡ other
    one_taken from one other = AreTakenTo-only moves from one other run.accepted.apart.come.leave.apart

    abbrev named_end : Place
    named_end = top_end ++ it.n ∷ []

    end_is : end ≡ named_end ++ it.rest
    end_is = sym (append_assoc top_end (it.n ∷ []) it.rest)

    -- no entry is taken to the root
    end_some : (b : Bool) (from to : Place) → Any (IsAt b from) entries → AreTakenTo moves from to → to ≢ []
    end_some b from to at (target, is, leads) none =
        let (place, leads_2, some, free) = arrivals.entry_place run b (map name from) target from (walk-names [] from) at is in
        some (some_of (sym leads_2 ∙ leads) ∙ none)

    -- no new path is at the end of the name, or below
    not_new : (k : ℕ) → k < length moves → (below : Place) → place_of (move_at moves k).new ≢ Some (named_end ++ below)
    not_new k within below leads = elim it.unread.hidden [
      | inr (held, out_of_the_way) ↦
          out_of_the_way named_end below k (place_taken [] top_end top_taken.1) within leads
      | inl at ↦
          let (normal, normal_of, clear) = run.accepted.below_no_unread k within in
          clear (record {
            front = map name top_end;
            rest = name it.n ∷ map name below;
            split = components-place normal_of leads ∙ ap (map name) (append_assoc top_end (it.n ∷ []) below)
                ∙ map-append name top_end (it.n ∷ below);
            some_front = λ none. end_some true it.top top_end (directory_of entries it.top at) top_taken.1
                (map_none name top_end none);
            some_rest = λ none. cc none;
            there = unread_after at;
          })
    ]
      where
        unread_after : Any (IsUnreadAt it.top) entries → HasAt is_unread moves entries (map name top_end)
        unread_after (e, entry, inside, is, at) = (
          e,
          entry,
          inside,
          is,
          record {
            kind = at.kind;
            there = AtTreePath-same moves (map name it.top) (components entry.path) (λ t. place_of t ≡ Some top_end)
                (λ t. IsSame t (map name top_end)) (IsSame-one_place it.top (walk-names [] it.top) at.leads)
                (λ t v same e. IsSame-one_place top_end (sym (same.everywhere []) ∙ e) (walk-names [] top_end))
                top_taken.1;
          },
        )

    -- no entry that isn't the top is taken to the top's end, if something is below it by the name
    no_other : (b : Bool) (p q : Place) → HasDirectoryAt entries p → AreTakenTo moves p top_end → Any (IsAt b q) entries
        → q ≡ p ++ it.n ∷ it.rest → p ≢ [] → top_end ≢ [] → ⊥
    no_other b p q at taken at_q q_is some some_end = elim (held_by entries moves it.top it.n it.unread) [
      | inl root ↦
          some_end
          (one_taken [] top_end [] (subst (λ top. AreTakenTo moves top top_end) root top_taken.1)
          (arrivals.AreTakenTo-root run))
      | inr at_top ↦
          let same = ends.entries_one run true true p it.top top_end at at_top taken top_taken.1 in
          no_entry b q it.rest at_q
          (q_is ∙ ap (λ top. top ++ it.n ∷ it.rest) same ∙ sym (append_assoc it.top (it.n ∷ []) it.rest))
    ]

    -- no page is taken to the end
    page_apart : (c : ℕ) → c < length changed → (target : List Step) → IsTreePath moves (path_at changed c) target
        → place_of target ≢ Some end
    page_apart c inside target (inl taken) leads = elim (cases_lt (length new.top) (length named_end)) [
      | inr no_less ↦
          let (x, is) = IsUnder-shorter end named_end new.top (it.rest, end_is) (taken.below, end_new) (omega (arith, no_less)) in
          not_new j new.within x (new.leads ∙ ap Some is)
      | inl less ↦
          let long = length-append top_end (it.n ∷ []) in
          let (y, top_is) =
          IsUnder-shorter end new.top top_end (taken.below, end_new) (it.n ∷ it.rest, refl) (omega (arith, less, long)) in
          deeper y top_is
          (append_cancel_left new.top taken.below (y ++ it.n ∷ it.rest)
          (sym end_new ∙ ap (λ top. top ++ it.n ∷ it.rest) top_is ∙ append_assoc new.top y (it.n ∷ it.rest)))
    ]
      where
        j : ℕ
        j = taken.move

        file : LeadsToFile entries (path_at changed c)
        file = run.files c [] inside

        new : arrivals.IsNewPlace moves target j taken.below
        new = arrivals.taken_place run (path_at changed c) target taken

        end_new : end ≡ new.top ++ taken.below
        end_new = some_of (sym leads ∙ new.arrives)

        old : Place
        old = taken.nearest.takes.top

        deeper : (y : Place) → top_end ≡ new.top ++ y → taken.below ≡ y ++ it.n ∷ it.rest → ⊥
        deeper y top_is below_is =
            no_other false (old ++ y) file.place
            (HasDirectoryAt-above entries pages run.whole false (old ++ y) it.n it.rest some
            (subst (λ q. Any (IsAt false q) entries) q_is file.file))
            taken_2 file.file q_is some (λ none. some_append new.top y new.some (sym top_is ∙ none))
          where
            q_is : file.place ≡ (old ++ y) ++ it.n ∷ it.rest
            q_is =
                some_of (sym file.leads ∙ taken.leads) ∙ taken.nearest.takes.down ∙ ap (λ below. old ++ below) below_is
                ∙ sym (append_assoc old y (it.n ∷ it.rest))

            some : old ++ y ≢ []
            some =
                let (b, at) = carrying.old_entry run j taken.nearest.takes.within old taken.nearest.takes.old in
                some_append old y (IsAt-some entries pages run.whole b old at)

            taken_2 : AreTakenTo moves (old ++ y) top_end
            taken_2 = (
              (move_at moves j).new ++ map name y,
              inl (IsTakenTo-above moves (path_at changed c) (map name (old ++ y)) target taken y (it.n ∷ it.rest) below_is
                  (walk-names [] (old ++ y))),
              arrivals.place-below run (move_at moves j).new new.top y new.leads ∙ ap Some (sym top_is),
            )
    page_apart c inside target (inr (left, same)) leads = by (place_or top_end [])
      where
        file : LeadsToFile entries (path_at changed c)
        file = run.files c [] inside

        q_is : file.place ≡ end
        q_is = some_of (sym file.leads ∙ sym (ap place_of same) ∙ leads)

        by : (top_end ≡ []) ⊎ (top_end ≢ []) → ⊥
        by (inl none) = elim (held_by entries moves it.top it.n it.unread) [
          | inl root ↦
              no_entry false file.place it.rest file.file
              (q_is ∙ ap (λ top. top ++ it.n ∷ it.rest) (none ∙ sym root) ∙ sym (append_assoc it.top (it.n ∷ []) it.rest))
          | inr at ↦ end_some true it.top top_end at top_taken.1 none
        ]
        by (inr some) =
            no_other false top_end file.place
            (HasDirectoryAt-above entries pages run.whole false top_end it.n it.rest some
            (subst (λ q. Any (IsAt false q) entries) q_is file.file)) (
              map name top_end,
              inr (
                IsLeftInPlace-above moves (path_at changed c) (map name top_end) file.place top_end (it.n ∷ it.rest)
                    file.leads (walk-names [] top_end) q_is left,
                refl,
              ),
              walk-names [] top_end,
            )
            file.file q_is some some

    -- ---- it keeps out of the way

    not_left : (i : ℕ) (step : List ℕ × List ℕ) → i < length actions.staged → get_or actions.staged i step ≡ step
        → carried (take i (leaving actions)) place ≢ step.1 ∷ []
    not_left i step within is now =
        not_free (step.1 ∷ [])
        (no_name step.1 (carrying.has_name run i step within is))
        ([], leaves.carried-early run i step within is place now ∙ sym (append-nil (step.1 ∷ [])))

    not_come : (m : ℕ) (step : List ℕ × List ℕ) → m < length actions.placed → get_or actions.placed m step ≡ step
        → carried (take m (coming actions)) (carried (leaving actions) place) ≢ names_of step.1
    not_come m step within is comes = elim to.why [
      | inl (k, inside, leads) ↦ not_new k inside it.rest (leads ∙ ap Some (sym ends_there ∙ end_is))
      | inr (c, inside, target, target_is, leads) ↦ page_apart c inside target target_is (leads ∙ ap Some (sym ends_there))
    ]
      where
        to : IsDestination entries moves changed step.1
        to = ways.destination run m step within is

        ends_there : end ≡ to.place
        ends_there =
            sym carries ∙ carrying.carried-in_turn run place
            ∙ carrying.carried-settled run m (carried (leaving actions) place) to.place (comes ∙ to.named) to.ends

    not_aside : (k : ℕ) (step : Place × Place) → k < length (renames_of actions) → get_or (renames_of actions) k step ≡ step
        → carried (take k (renames_of actions)) place ≢ step.1
    not_aside =
        each-rename actions (λ k step. carried (take k (renames_of actions)) place ≢ step.1)
        (λ k step within is now.
        not_left k step within is
        (sym (ap (λ renames. carried renames place) (renames-leaving actions k (omega (arith, within)))) ∙ now
        ∙ carrying.left_place run k step within is))
        (λ m step within is now. not_come m step within is (sym (carried-coming actions m place) ∙ now))

    unmade : (text : List ℕ) → Contains made text → carried (leaving actions) place ≢ names_of text
    unmade text (i, within, is) comes =
        let (directory, at, arrives) = directories.missing-made run (map components run.accepted.apart.after) made arrive i text
        within is in
        let ends_there : at.place ≡ end =
        sym arrives ∙ ap (carried (coming actions)) (sym comes) ∙ sym (carrying.carried-in_turn run place) ∙ carries in
        not_new at.move at.within (it.rest ++ at.rest)
        (at.new ∙ ap Some (ap (λ top. top ++ at.rest) (ends_there ∙ end_is) ∙ append_assoc named_end it.rest at.rest))

    pub is_aside : IsAside moves changed actions made place
    is_aside = record {
      stays = record { aside = not_aside; unmade = unmade };
      to = end;
      taken = end_taken;
      carries = carries;
      unchanged = λ c inside same.
          let file = run.files c [] inside in
          let here : place ≡ file.place = some_of (sym (walk-names [] place) ∙ same.everywhere [] ∙ file.leads) in
          not_page file ([], here ∙ sym (append-nil file.place));
      no_file = λ new has same. not_free (names_of new.1) (no_file new has)
          ([], sym same ∙ sym (append-nil (names_of new.1)));
    }
