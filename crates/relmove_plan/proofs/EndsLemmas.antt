-- What is above a new path after the moves: a directory of the tree, or nothing; and where such a directory is before the
-- renames of `placed`.
use Rattle.std.proofs.Common.{All, Bool, true, false, true≢false, ◌≡◌, ◌≢◌, ◌⊎◌, ℕ, ◌<◌, ◌≤◌, ◌+◌, List, [], ◌∷◌, ◌++◌, Some, length, map, get_or, inl, inr, refl, sym, ap, subst, ◌∙◌, append_assoc, append-nil, not, arith}
use Rattle.std.specs.List.{Any}
use Rattle.std.proofs.lemmas.Bool.{cases_lt}
use Rattle.std.proofs.lemmas.List.{get_or-map, get_or_default, length-append, length-map, append_cancel_left}
use Rattle.std.proofs.lemmas.List.Elements.{All-map}
use Rattle.relative_path.specs.Steps.{Step, name, components}
use Rattle.relative_path.specs.Walk.{place_of}
use Rattle.relative_path.proofs.ForCallers.{IsSame-refl, walk-names}
use Rattle.relative_path_moves.specs.Moves.{Move, move_at}
use Rattle.relative_path_places.specs.PlaceIndex.{IsNoneAt, path_at}
use Rattle.relative_path_moves.specs.TreeMoves.{IsLeftInPlace, IsTakenTo, IsTreePath, TakesAlong}
use Rattle.relmove_checks.specs.declared.entry.Entry.{Entry}
use Rattle.relmove_checks.specs.declared.name_rule.NameRule.{NameRule}
use Rattle.relmove_checks.specs.Trees.{entry_paths, is_directory}
use Rattle.relmove_steps.specs.Directories.{LeaveToNames}
use Rattle.relmove_plan.proofs.RunWords.{carried, renames_of}
use Rattle.relmove_steps.specs.Actions.{ActionTexts}
use Rattle.relmove_plan.specs.WholeTrees.{IsAt}
use Rattle.relmove_plan.proofs.KnownRunsLemmas.{IsKnownRun}
use Rattle.relmove_plan.proofs.CarriedLemmas.{leaving}
use Rattle.relmove_plan.proofs.ArrivalsLemmas as arrivals
use Rattle.relmove_plan.proofs.CarriedLemmas as carrying
use Rattle.relmove_plan.proofs.FirstsLemmas.{one_at_or}
use Rattle.relmove_plan.proofs.FreeWaysLemmas as ways
use Rattle.relmove_plan.proofs.MadeLemmas.{IsMadeFrom, IsUnderNew}
use Rattle.relmove_plan.proofs.MadeLemmas as directories
use Rattle.relmove_plan.proofs.RunsLemmas.{IsUnder-shorter}
use Rattle.relmove_plan.proofs.SourcesLemmas.{element, first_of}
use Rattle.relmove_plan.proofs.WholeTreesLemmas.{HasDirectoryAt-above, IsAt-one, IsSame-one_place, held_at, not_empty, path_at-entry, some_of}
use Rattle.relmove_plan.proofs.TakenLemmas.{takes-more, IsNearest-above, IsLeftInPlace-above, AreTakenTo-target, IsTakenTo-above}
use Rattle.relmove_plan.specs.MovedTrees.{AreTakenTo}

-- a directory of the tree comes to the place
pub record IsDirectoryTo (entries : List Entry) (after : List (List ℕ)) (end : List (List ℕ)) : Type 0 where
  pub number : ℕ
  pub entry : Entry
  pub within : number < length entries
  pub is : get_or entries number entry ≡ entry
  pub start : List (List ℕ)
  pub at : IsAt true start entry
  pub arrives : place_of (components (get_or after number [])) ≡ Some end

module _ {entries : List Entry} {pages changed : List (List Step)} {moves : List Move} {rule : NameRule} {actions : ActionTexts}
    (run : IsKnownRun entries pages changed moves rule actions)
  where
    abbrev pub after : List (List ℕ)
    after = run.accepted.apart.after

    -- ---- the places of entries after the moves

    after-leads : (e : ℕ) (entry : Entry) → e < length entries → get_or entries e entry ≡ entry
        → (place : List (List ℕ)) × (place_of (components (get_or after e [])) ≡ Some place)
    after-leads e entry within is =
        let held = held_at entries pages run.whole e entry within is in
        let (target, target_is, normal) = ways.after_is run e entry within is in
        let (place, leads, some, free) =
        arrivals.entry_place run (is_directory entry.kind) (components entry.path) target (held.directory ++ held.name ∷ [])
        held.leads (e, entry, within, is, record { kind = refl; leads = held.leads }) target_is in
        (place, sym (normal.same.everywhere []) ∙ leads)

    all-lead : All (λ cs. (p : List (List ℕ)) × (place_of cs ≡ Some p)) (map components after)
    all-lead =
        All-map (λ cs. (p : List (List ℕ)) × (place_of cs ≡ Some p)) components after
        (λ e d l.
        let long = ways.long run in
        let within : e < length entries = omega (arith, l, long) in
        let (entry, is) = element entries e within in
        subst (λ text. (p : List (List ℕ)) × (place_of (components text) ≡ Some p)) (get_or_default after e [] d l)
        (after-leads e entry within is))

    -- where the moves take an entry
    pub entry_taken : (b : Bool) (from : List (List ℕ)) → Any (IsAt b from) entries
        → (to : List (List ℕ)) × AreTakenTo moves from to
    entry_taken b from (e, entry, within, is, at) =
        let (target, target_is, normal) = ways.after_is run e entry within is in
        let (to, there, some, free) =
        arrivals.entry_place run b (components entry.path) target from at.leads (e, entry, within, is, at) target_is in
        (to, AreTakenTo-target moves (components entry.path) target from to at.leads target_is there)

    -- what comes to above a new path is a directory
    directory-above : (k : ℕ) → k < length moves → (front rest : List (List ℕ))
        → place_of (move_at moves k).new ≡ Some (front ++ rest) → front ≢ [] → rest ≢ [] → (e : ℕ) (entry : Entry)
        → e < length entries → get_or entries e entry ≡ entry → place_of (components (get_or after e [])) ≡ Some front
        → (b : Bool) → is_directory entry.kind ≡ b → is_directory entry.kind ≡ true
    directory-above k within front rest new some some_rest e entry inside is arrives true kind = kind
    directory-above k within front rest new some some_rest e entry inside is arrives false kind =
        let (target, target_is, normal) = ways.after_is run e entry inside is in
        absurd (directories.no_file-above run k within front rest new some some_rest (
          e,
          entry,
          inside,
          is,
          record {
            kind = ap not kind;
            there = (
              target,
              target_is,
              IsSame-one_place front (normal.same.everywhere [] ∙ arrives) (walk-names [] front),
            );
          },
        ))

    -- after the moves a directory of the tree is above a new path, or nothing is there
    pub above-new : (k : ℕ) → k < length moves → (front rest : List (List ℕ))
        → place_of (move_at moves k).new ≡ Some (front ++ rest) → front ≢ [] → rest ≢ []
        → IsNoneAt (map components after) (map name front) ⊎ IsDirectoryTo entries after front
    above-new k within front rest new some some_rest = by (one_at_or (map components after) all-lead front)
      where
        by : IsNoneAt (map components after) (map name front)
            ⊎ ((e : ℕ) × (e < length (map components after)) × (place_of (path_at (map components after) e) ≡ Some front))
            → IsNoneAt (map components after) (map name front) ⊎ IsDirectoryTo entries after front
        by (inl none) = inl none
        by (inr (e, inside, leads)) =
            let within_2 : e < length after = rw length-map at inside in
            let long = ways.long run in
            let within_3 : e < length entries = omega (arith, within_2, long) in
            let (entry, is) = element entries e within_3 in
            let held = held_at entries pages run.whole e entry within_3 is in
            let arrives : place_of (components (get_or after e [])) ≡ Some front =
            sym (ap place_of (get_or-map components after e [] [] within_2)) ∙ leads in
            inr (record {
              number = e;
              entry = entry;
              within = within_3;
              is = is;
              start = held.directory ++ held.name ∷ [];
              at = record {
                kind = directory-above k within front rest new some some_rest e entry within_3 is arrives
                    (is_directory entry.kind) refl;
                leads = held.leads;
              };
              arrives = arrives;
            })

    -- ---- directories of the tree

    -- a directory is no page that changes
    pub directory-unchanged : (start : List (List ℕ)) → Any (IsAt true start) entries → IsNoneAt changed (map name start)
    directory-unchanged start at c within same =
        let file = run.files c [] within in
        let here : file.place ≡ start = some_of (sym file.leads ∙ sym (same.everywhere []) ∙ walk-names [] start) in
        true≢false (IsAt-one entries pages run.whole true false start at
        (subst (λ place. Any (IsAt false place) entries) here file.file))

    directory-moved : (start : List (List ℕ)) → Any (IsAt true start) entries
        → arrivals.IsMovedAlong entries changed moves actions start
    directory-moved start at =
        arrivals.IsMovedAlong-entry run true start at (directory-unchanged start at)

    -- it comes to where the moves take it
    pub carried-directory : (cs target : List Step) (start end : List (List ℕ)) → place_of cs ≡ Some start
        → Any (IsAt true start) entries → IsTreePath moves cs target → place_of target ≡ Some end
        → carried (renames_of actions) start ≡ end
    carried-directory cs target start end leads at target_is arrives =
        arrivals.carried-target run cs start leads (directory-moved start at) target target_is end arrives

    pub carried-to : (end : List (List ℕ)) (to : IsDirectoryTo entries after end) → carried (renames_of actions) to.start ≡ end
    carried-to end to =
        let (target, target_is, normal) = ways.after_is run to.number to.entry to.within to.is in
        carried-directory (components to.entry.path) target to.start end to.at.leads
        (to.number, to.entry, to.within, to.is, to.at) target_is (normal.same.everywhere [] ∙ to.arrives)

    -- ---- what comes to a new path

    -- the entry at the old path of a move comes to its new path
    pub moved-entry : (k : ℕ) → k < length moves → (top : List (List ℕ)) → place_of (move_at moves k).new ≡ Some top
        → (g : ℕ) × (g < length entries) × (place_of (components (get_or after g [])) ≡ Some top)
    moved-entry k within top new =
        let (b, place, old, (g, entry, inside, is, at)) = carrying.old_place run k within in
        let (target, target_is, arrives) =
        directories.AtTreePath-move run k (components entry.path) place top within at.leads old new in (
          g,
          inside,
          ways.after_leads run g entry (components entry.path) target top inside is
              (IsSame-refl (components entry.path)) target_is arrives,
        )

    -- two entries aren't taken to one place
    pub entries_one : (b c : Bool) (p q t : List (List ℕ)) → Any (IsAt b p) entries → Any (IsAt c q) entries → AreTakenTo moves p t
        → AreTakenTo moves q t → p ≡ q
    entries_one b c p q t (e, entry, within, is, at) (f, other, within_2, is_2, at_2) (target, target_is, leads)
        (target_2, target_is_2, leads_2) =
        let arrives = ways.after_leads run e entry (map name p) target t within is
        (IsSame-one_place p (walk-names [] p) at.leads) target_is leads in
        let arrives_2 = ways.after_leads run f other (map name q) target_2 t within_2 is_2
        (IsSame-one_place q (walk-names [] q) at_2.leads) target_is_2 leads_2 in
        let same : e ≡ f = ways.after_one run e f t within within_2 arrives arrives_2 in
        some_of
        (sym (ap place_of (path_at-entry entries e entry within is) ∙ at.leads)
        ∙ ap (λ e. place_of (path_at (entry_paths entries) e)) same
        ∙ ap place_of (path_at-entry entries f other within_2 is_2) ∙ at_2.leads)

    -- so what is taken to a new path is at the old path of its move
    takes-itself : (k : ℕ) → k < length moves → (top : List (List ℕ)) → place_of (move_at moves k).new ≡ Some top → (b : Bool)
        (place : List (List ℕ)) → Any (IsAt b place) entries → AreTakenTo moves place top → TakesAlong moves place k []
    takes-itself k within top new b place at taken =
        let (c, old, leads, at_2) = carrying.old_place run k within in
        let here : place ≡ old =
        entries_one b c place old top at at_2 taken
        (directories.AtTreePath-move run k (map name old) old top within (walk-names [] old) leads new) in
        record { within = within; top = old; old = leads; down = here ∙ sym (append-nil old) }

    -- an entry is where a front of the place of an entry leads
    front-entry : (b : Bool) (front below : List (List ℕ)) → Any (IsAt b (front ++ below)) entries → front ≢ []
        → (c : Bool) × Any (IsAt c front) entries
    front-entry b front [] at some = (b, subst (λ place. Any (IsAt b place) entries) (append-nil front) at)
    front-entry b front (n ∷ below) at some =
        (true, HasDirectoryAt-above entries pages run.whole b front n below some at)

    -- ---- before the renames of `placed`

    -- no new path is at a directory that stays, or above it
    stays-apart : (cs : List Step) (start : List (List ℕ)) → place_of cs ≡ Some start → Any (IsAt true start) entries
        → IsLeftInPlace moves cs → (j : ℕ) (below : List (List ℕ)) → ¬ IsUnderNew moves start j below
    stays-apart cs start leads at left j below under =
        let top = under.top in
        let some : top ≢ [] = λ none. (arrivals.new_place run j under.within).2
        (some_of (sym (arrivals.new_place run j under.within).1 ∙ under.leads) ∙ none) in
        let (c, at_2) = front-entry true top below (subst (λ place. Any (IsAt true place) entries) under.down at) some in
        let stays : IsLeftInPlace moves (map name top) =
        IsLeftInPlace-above moves cs (map name top) start top below leads (walk-names [] top) under.down left in
        left start j ([] ++ below) leads
        (takes-more moves top start below [] j
        (takes-itself j under.within top under.leads c top at_2 (map name top, inr (stays, refl), walk-names [] top)) under.down)

    -- of the new paths at a directory that is moved, or above it, that of its move is the nearest
    nearest-new : (cs target : List Step) (start end : List (List ℕ)) → place_of cs ≡ Some start → Any (IsAt true start) entries
        → (taken : IsTakenTo moves cs target) → (new : List (List ℕ)) → place_of (move_at moves taken.move).new ≡ Some new
        → end ≡ new ++ taken.below → (k : ℕ) (others : List (List ℕ)) → (under : IsUnderNew moves end k others)
        → length others < length taken.below → ⊥
    nearest-new cs target start end leads at taken new new_leads end_is k others under less =
        by (IsUnder-shorter end new under.top (taken.below, end_is) (others, under.down) (omega (arith, less, long_new, long_top)))
      where
        long_new : length end ≡ length new + length taken.below
        long_new = ap length end_is ∙ length-append new taken.below

        long_top : length end ≡ length under.top + length others
        long_top = ap length under.down ∙ length-append under.top others

        top : List (List ℕ)
        top = taken.nearest.takes.top

        by : (first : List (List ℕ)) × (under.top ≡ new ++ first) → ⊥
        by (first, top_is) =
            let below_is : taken.below ≡ first ++ others =
            append_cancel_left new taken.below (first ++ others)
            (sym end_is ∙ under.down ∙ ap (λ top. top ++ others) top_is ∙ append_assoc new first others) in
            let long_first = ap length below_is ∙ length-append first others in
            let some_first : first ≢ [] = λ none. absurd (let empty = ap length none in omega (arith, empty, long_first, less)) in
            let start_is : start ≡ (top ++ first) ++ others =
            some_of (sym leads ∙ taken.leads) ∙ taken.nearest.takes.down ∙ ap (λ below. top ++ below) below_is
            ∙ sym (append_assoc top first others) in
            let (n, ns, first_is) = first_of first some_first in
            let some : top ++ first ≢ [] = λ none. not_empty top n ns (ap (λ first. top ++ first) (sym first_is) ∙ none) in
            let (c, at_2) =
            front-entry true (top ++ first) others (subst (λ place. Any (IsAt true place) entries) start_is at) some in
            let near = IsNearest-above moves taken.place taken.below first others taken.move taken.nearest below_is in
            let none : length first ≤ 0 =
            near.nearest k []
            (takes-itself k under.within under.top under.leads c (top ++ first) at_2 (
              (move_at moves taken.move).new ++ map name first,
              inl (IsTakenTo-above moves cs (map name (top ++ first)) target taken first others below_is (walk-names [] (top ++ first))),
              arrivals.place-below run (move_at moves taken.move).new new first new_leads ∙ ap Some (sym top_is),
            )) in
            let count = ap length first_is in
            absurd (omega (arith, none, count))

    module _ (staging : List (List ℕ)) (leave : LeaveToNames moves staging actions) where
      -- a directory that comes to a place is where what comes to that place is before the renames of `placed`
      pub from-directory : (end : List (List ℕ)) (to : IsDirectoryTo entries after end)
          → IsMadeFrom moves staging end (carried (leaving actions) to.start)
      from-directory end to =
          let (target, target_is, normal) = ways.after_is run to.number to.entry to.within to.is in
          by target target_is (normal.same.everywhere [] ∙ to.arrives)
        where
          cs : List Step
          cs = components to.entry.path

          at : Any (IsAt true to.start) entries
          at = (to.number, to.entry, to.within, to.is, to.at)

          by : (target : List Step) → IsTreePath moves cs target → place_of target ≡ Some end
              → IsMadeFrom moves staging end (carried (leaving actions) to.start)
          by target (inr (left, same)) leads =
              let here : to.start ≡ end = some_of (sym to.at.leads ∙ sym (ap place_of same) ∙ leads) in
              IsMadeFrom.from_place
              (λ j below under.
              stays-apart cs to.start to.at.leads at left j below (subst (λ place. IsUnderNew moves place j below) (sym here) under))
              (arrivals.carried-left_in_place run cs to.start to.at.leads (directory-moved to.start at) left ∙ here)
          by target (inl taken) leads =
              let j = taken.move in
              let new = arrivals.taken_place run cs target taken in
              let end_is : end ≡ new.top ++ taken.below = some_of (sym leads ∙ new.arrives) in
              let (old, old_of, leaves) = leave.each j new.within in
              IsMadeFrom.from_name j taken.below
              (record { within = new.within; top = new.top; leads = new.leads; down = end_is })
              (λ k others under. elim (cases_lt (length others) (length taken.below)) [
                | inl less ↦
                    absurd (nearest-new cs target to.start end to.at.leads at taken new.top new.leads end_is k others under less)
                | inr fine_2 ↦ fine_2
              ])
              (arrivals.carried-taken run cs to.start to.at.leads (directory-moved to.start at) target taken old (get_or staging j [])
              old_of leaves)
