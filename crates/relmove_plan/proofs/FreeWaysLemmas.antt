-- Nothing is in the way of a run's renames: each leads from where something is to where nothing is.
use Rattle.std.proofs.Common.{Bool, ◌≡◌, ◌⊎◌, ℕ, ◌<◌, ◌+◌, List, [], ◌∷◌, Contains, Some, length, map, take, get_or, inl, inr, refl, sym, ap, subst, ◌∙◌, arith}
use Rattle.std.specs.List.{Any}
use Rattle.std.proofs.lemmas.List.{get_or-map, length-map}
use Rattle.std.proofs.lemmas.Slice.Zip.{AllZip-long}
use Rattle.relative_path.specs.Steps.{Step, name, components}
use Rattle.relative_path.specs.Walk.{IsSame, place_of}
use Rattle.relative_path.specs.Normalizing.{IsNormalTextOf}
use Rattle.relative_path.proofs.ForCallers.{IsSame-place, IsSame-sym, IsSame-trans, walk-names}
use Rattle.relative_path_moves.specs.Moves.{Move}
use Rattle.relative_path_places.specs.PlaceIndex.{IsNoneAt, path_at}
use Rattle.relative_path_moves.specs.TreeMoves.{IsTreePath, AtTreePath}
use Rattle.relative_path_moves.proofs.ForCallers.{AtTreePath-same, IsTreePath-only}
use Rattle.relmove_checks.specs.declared.entry.Entry.{Entry}
use Rattle.relmove_checks.specs.declared.name_rule.NameRule.{NameRule}
use Rattle.relmove_checks.specs.Trees.{IsAfter, entry_paths}
use Rattle.relmove_checks.proofs.ForCallers.{AllZip-at}
use Rattle.relmove_trees.specs.FileTrees.{names_of}
use Rattle.relmove_plan.proofs.RunWords.{carried, renames_of, IsThereAfter, NothingInTheWay, IsThing}
use Rattle.relmove_steps.specs.Actions.{ActionTexts, Removes, Carries}
use Rattle.relmove_plan.specs.WholeTrees.{IsAt}
use Rattle.relmove_plan.proofs.CarriedLemmas.{HasNoName, coming, leaving}
use Rattle.relmove_plan.proofs.CarriedLemmas as carrying
use Rattle.relmove_plan.proofs.ArrivalsLemmas as arrivals
use Rattle.relmove_plan.proofs.KnownRunsLemmas.{IsKnownRun}
use Rattle.relmove_plan.proofs.PlacesLemmas.{names_of-normal}
use Rattle.relmove_plan.proofs.RunsLemmas.{carried-elsewhere}
use Rattle.relmove_plan.proofs.SourcesLemmas.{IsUnder-first}
use Rattle.relmove_plan.proofs.WaysLemmas.{carried-coming, each-rename}
use Rattle.relmove_plan.proofs.WaysLemmas as ways
use Rattle.relmove_plan.proofs.WholeTreesLemmas.{IsSame-one_place, path_at-entry, some_of, one_number}
use Rattle.relmove_plan.proofs.ComingLemmas.{IsDestination, one_by_key}
use Rattle.relmove_plan.proofs.ComingLemmas as coming_names
use Rattle.relmove_plan.proofs.TakenLemmas.{AreTakenTo-target}
use Rattle.relmove_plan.specs.MovedTrees.{AreTakenTo}

-- a new file of the page at the place
pub record IsFileOf (changed : List (List Step)) (actions : ActionTexts) (file place : List (List ℕ)) : Type 0 where
  pub new : List ℕ × List ℕ × List ℕ
  pub written : Contains actions.texts new
  pub here : names_of new.1 ≡ file
  pub page : ℕ
  pub within : page < length changed
  pub old_of : IsNormalTextOf (path_at changed page) new.0
  pub leads : place_of (path_at changed page) ≡ Some place

-- what starts there is an entry that doesn't change, or the new file of one that does, and the entry comes to the end
pub record BelongsTo (entries : List Entry) (changed : List (List Step)) (actions : ActionTexts) (after : List (List ℕ))
    (start end : List (List ℕ)) : Type 0 where
  pub number : ℕ
  pub within : number < length entries
  pub place : List (List ℕ)
  pub leads : place_of (path_at (entry_paths entries) number) ≡ Some place
  pub arrives : place_of (components (get_or after number [])) ≡ Some end
  pub thing : ((start ≡ place) × IsNoneAt changed (map name place)) ⊎ IsFileOf changed actions start place

module _ {entries : List Entry} {pages changed : List (List Step)} {moves : List Move} {rule : NameRule} {actions : ActionTexts}
    (run : IsKnownRun entries pages changed moves rule actions)
  where
    -- the paths of the entries after the moves
    abbrev pub after : List (List ℕ)
    after = run.accepted.apart.after

    -- ---- what comes to an end

    -- after the moves the entry leads there
    pub after_is : (e : ℕ) (entry : Entry) → e < length entries → get_or entries e entry ≡ entry
        → IsAfter moves entry (get_or after e [])
    after_is e entry within is =
        subst (λ entry. IsAfter moves entry (get_or after e [])) is
        (AllZip-at (IsAfter moves) entries after e entry [] run.accepted.apart.are_after within)

    -- so the normal path of an entry leads to where a file that leads to the entry is
    pub after_leads : (e : ℕ) (entry : Entry) (cs target : List Step) (end : List (List ℕ)) → e < length entries
        → get_or entries e entry ≡ entry → IsSame cs (components entry.path) → IsTreePath moves cs target
        → place_of target ≡ Some end → place_of (components (get_or after e [])) ≡ Some end
    after_leads e entry cs target end within is same target_is leads =
        let (one, one_is, normal) = after_is e entry within is in
        let (other, other_is, leads_2) =
        AtTreePath-same moves cs (components entry.path) (λ now. place_of now ≡ Some end)
        (λ now. place_of now ≡ Some end) same (λ t u same leads. sym (same.everywhere []) ∙ leads)
        (target, target_is, leads) in
        sym (normal.same.everywhere [])
        ∙ ap place_of
        (IsTreePath-only moves (components entry.path) other one run.accepted.apart.come.leave.apart other_is one_is)
        ∙ leads_2

    -- what is removed stays at its staging name
    pub carried-removed : (from : List ℕ) (gone : Removes actions from)
        → carried (renames_of actions) (names_of from) ≡ gone.staging ∷ []
    carried-removed from gone =
        carrying.carried-in_turn run (names_of from)
        ∙ ap (carried (coming actions)) (carrying.carried-left run from gone.staging gone.leaves)
        ∙ carried-elsewhere (coming actions) (gone.staging ∷ [])
        (carrying.placed_clear run (gone.staging ∷ [])
        (λ step has under.
        coming_names.come_kept run step.0 step.1 has
        (subst (Contains actions.removed) (IsUnder-first gone.staging step.0 [] [] under) gone.removed)))

    -- so a page's old text doesn't come to an end without a staging name
    stays_away : (c : ℕ) (place end : List (List ℕ)) → c < length changed → place_of (path_at changed c) ≡ Some place
        → carried (renames_of actions) place ≡ end → ¬ HasNoName entries end
    stays_away c place end inside leads comes ends =
        let gone = run.removed c [] inside in
        let staging = gone.removes.staging in
        let (i, within, is) = gone.removes.leaves in
        let has = carrying.has_name run i (gone.old, staging) within is in
        let old_is : names_of gone.old ≡ place = names_of-normal (path_at changed c) gone.old place gone.old_of leads in
        ends staging (carrying.staging_own run staging has) (carrying.staging_unused run staging has)
        ([], sym comes ∙ ap (carried (renames_of actions)) (sym old_is) ∙ carried-removed gone.old gone.removes)

    -- an entry that comes to an end without a staging name belongs to itself
    entry_belongs : (start end : List (List ℕ)) (b : Bool) → Any (IsAt b start) entries
        → carried (renames_of actions) start ≡ end → HasNoName entries end → BelongsTo entries changed actions after start end
    entry_belongs start end b at comes ends = by at (coming_names.changed_or run start)
      where
        by : Any (IsAt b start) entries
            → IsNoneAt changed (map name start) ⊎ ((k : ℕ) × (k < length changed) × (place_of (path_at changed k) ≡ Some start))
            → BelongsTo entries changed actions after start end
        by (e, entry, within, is, here) (inl none) =
            let (target, target_is, normal) = after_is e entry within is in
            let (to, leads, some, free) = arrivals.entry_place run b (components entry.path) target start here.leads at target_is in
            let to_is : to ≡ end =
            sym (arrivals.carried-target run (components entry.path) start here.leads
            (arrivals.IsMovedAlong-entry run b start at none) target target_is to leads)
            ∙ comes in
            record {
              number = e;
              within = within;
              place = start;
              leads = ap place_of (path_at-entry entries e entry within is) ∙ here.leads;
              arrives = sym (normal.same.everywhere []) ∙ leads ∙ ap Some to_is;
              thing = inl (refl, none);
            }
        by found (inr (c, inside, leads)) = absurd (stays_away c start end inside leads comes ends)

    -- the new text of a page comes to where the moves take the page
    pub text_comes : (c : ℕ) → c < length changed → (from : List (List ℕ)) → place_of (path_at changed c) ≡ Some from
        → (file to : List ℕ)
        → Carries actions file to → AtTreePath moves (path_at changed c) (λ now. IsNormalTextOf now to)
        → AreTakenTo moves from (carried (renames_of actions) (names_of file))
    text_comes c inside from leads file to carries (target, is, normal) =
        let (place, there, some, free) = arrivals.target_place run (path_at changed c) target (run.files c [] inside) is in
        AreTakenTo-target moves (path_at changed c) target from (carried (renames_of actions) (names_of file)) leads is
        (there ∙ ap Some (sym (carrying.carried-from run file to place carries (names_of-normal target to place normal there) free)))

    -- so a new file belongs to the entry of its page
    file_belongs : (start end : List (List ℕ)) (new : List ℕ × List ℕ × List ℕ) → Contains actions.texts new
        → names_of new.1 ≡ start → carried (renames_of actions) start ≡ end → BelongsTo entries changed actions after start end
    file_belongs start end new has here comes =
        let (c, inside, old_of, to, carries, goes) = coming_names.file_carries run new has in
        let file = run.files c [] inside in
        let (target, is, leads) = text_comes c inside file.place file.leads new.1 to carries goes in
        let (e, entry, within, entry_is, at) = file.file in
        record {
          number = e;
          within = within;
          place = file.place;
          leads = ap place_of (path_at-entry entries e entry within entry_is) ∙ at.leads;
          arrives = after_leads e entry (map name file.place) target end within entry_is
              (IsSame-one_place file.place (walk-names [] file.place) at.leads) is
              (leads ∙ ap Some (ap (carried (renames_of actions)) here ∙ comes));
          thing = inr (record {
            new = new;
            written = has;
            here = here;
            page = c;
            within = inside;
            old_of = old_of;
            leads = file.leads;
          });
        }

    -- what comes to an end without a staging name belongs to an entry
    pub belongs : (start end : List (List ℕ)) → IsThing entries actions start → carried (renames_of actions) start ≡ end
        → HasNoName entries end → BelongsTo entries changed actions after start end
    belongs start end (inl (b, at)) comes ends = entry_belongs start end b at comes ends
    belongs start end (inr (t, new, within, is, here)) comes ends = file_belongs start end new (t, within, is) here comes

    pub long : length after ≡ length entries
    long = AllZip-long (IsAfter moves) entries after run.accepted.apart.are_after

    -- two entries that come to one place after the moves are one entry
    pub after_one : (e f : ℕ) (end : List (List ℕ)) → e < length entries → f < length entries
        → place_of (components (get_or after e [])) ≡ Some end → place_of (components (get_or after f [])) ≡ Some end → e ≡ f
    after_one e f end within within_2 one other =
        one_number (λ e. (e < length entries) × (place_of (components (get_or after e [])) ≡ Some end))
        (λ e f less (inside, one) (inside_2, other).
        let inside_3 : f < length after = omega (arith, inside_2, long) in
        let here = get_or-map components after e [] [] (omega (arith, less, inside_3)) in
        let here_2 = get_or-map components after f [] [] inside_3 in
        (run.accepted.apart.distinct f (rw length-map inside_3)).first e less
        (IsSame-one_place end (ap place_of here_2 ∙ other) (ap place_of here ∙ one)))
        e f (within, one) (within_2, other)

    -- what belongs to one entry is one thing
    thing_one : (one other end : List (List ℕ)) → BelongsTo entries changed actions after one end
        → BelongsTo entries changed actions after other end → one ≡ other
    thing_one one other end of of_2 =
        let same = after_one of.number of_2.number end of.within of_2.within of.arrives of_2.arrives in
        by of.thing of_2.thing
        (some_of (sym of.leads ∙ ap (λ e. place_of (path_at (entry_paths entries) e)) same ∙ of_2.leads))
      where
        unlike : (file place : List (List ℕ)) → IsFileOf changed actions file place → ¬ IsNoneAt changed (map name place)
        unlike file place is none =
            none is.page is.within (IsSame-sym (IsSame-place is.leads))

        by : ((one ≡ of.place) × IsNoneAt changed (map name of.place)) ⊎ IsFileOf changed actions one of.place
            → ((other ≡ of_2.place) × IsNoneAt changed (map name of_2.place)) ⊎ IsFileOf changed actions other of_2.place
            → of.place ≡ of_2.place → one ≡ other
        by (inl (here, none)) (inl (here_2, none_2)) same = here ∙ same ∙ sym here_2
        by (inl (here, none)) (inr file) same =
            absurd (unlike other of_2.place file (subst (λ place. IsNoneAt changed (map name place)) same none))
        by (inr file) (inl (here, none)) same =
            absurd (unlike one of.place file (subst (λ place. IsNoneAt changed (map name place)) (sym same) none))
        by (inr file) (inr file_2) same =
            let together : IsSame (path_at changed file_2.page) (path_at changed file.page) =
            IsSame-one_place of_2.place file_2.leads (file.leads ∙ ap Some same) in
            let text : file.new.0 ≡ file_2.new.0 =
            file_2.old_of.only file.new.0 file.old_of.normal_text (IsSame-trans together file.old_of.same) in
            sym file.here
            ∙ ap (λ (new : List ℕ × List ℕ × List ℕ). names_of new.1)
            (one_by_key (λ (new : List ℕ × List ℕ × List ℕ). new.0) actions.texts run.one_text file.new file_2.new file.written
            file_2.written text)
            ∙ file_2.here

    -- ---- each rename

    module _ (k : ℕ) (step : List ℕ × List ℕ) (within : k < length actions.placed) (is : get_or actions.placed k step ≡ step)
      where
        abbrev before : (i : ℕ) × (other : List ℕ × List ℕ) × (i < length actions.staged)
            × (get_or actions.staged i other ≡ other) × (other.1 ≡ step.0)
        before = ways.left_before run k step within is

        left : Contains actions.staged (before.1.0, step.0)
        left =
            let (i, other, within_2, is_2, same) = before in
            (i, within_2, subst (λ b. get_or actions.staged i (other.0, b) ≡ (other.0, b)) same is_2)

        -- where the rename leads to
        pub destination : IsDestination entries moves changed step.1
        destination =
            let (i, other, within_2, is_2, same) = before in
            coming_names.destination run other.0 step.0 step.1 (ways.leaves run i other within_2 is_2) left (k, within, is)

        pub end_free : HasNoName entries (names_of step.1)
        end_free = subst (HasNoName entries) (sym destination.named) destination.ends

        -- what comes there belongs to an entry
        pub comes_belongs : BelongsTo entries changed actions after (names_of before.1.0) (names_of step.1)
        comes_belongs =
            belongs (names_of before.1.0) (names_of step.1) (ways.IsThing-leaves run before.0 before.1 before.2 before.3)
            (carrying.carried-from run before.1.0 step.1 (names_of step.1)
            (record { staging = step.0; leaves = left; comes = (k, within, is) }) refl end_free)
            end_free

        -- nothing is there
        pub IsFree-comes : ¬ IsThereAfter entries actions (length actions.staged + k) (names_of step.1)
        IsFree-comes there =
            end_free step.0 (carrying.name_own run k step within is) (carrying.name_unused run k step within is) (
              [],
              sym there.now ∙ ap (carried (take (length actions.staged + k) (renames_of actions))) one
                  ∙ ways.carried-before run k before.0 step before.1 within is before.2 before.3 before.4
                  ∙ carrying.name_place run k step within is,
            )
          where
            -- what is there stays there
            stays : carried (renames_of actions) there.start ≡ names_of step.1
            stays =
                carrying.carried-in_turn run there.start
                ∙ carrying.carried-settled run k (carried (leaving actions) there.start) (names_of step.1)
                (sym (carried-coming actions k there.start) ∙ there.now) end_free

            one : there.start ≡ names_of before.1.0
            one =
                thing_one there.start (names_of before.1.0) (names_of step.1)
                (belongs there.start (names_of step.1) there.thing stays end_free) comes_belongs

    -- each rename leads from where something is to where nothing is
    pub NothingInTheWay-actions : NothingInTheWay entries actions
    NothingInTheWay-actions =
        each-rename actions
        (λ k place. IsThereAfter entries actions k place.0 × (¬ IsThereAfter entries actions k place.1))
        (λ k step within is. (ways.IsThere-leaves run k step within is, ways.IsFree-leaves run k step within is))
        (λ m step within is. (ways.IsThere-comes run m step within is, IsFree-comes m step within is))
