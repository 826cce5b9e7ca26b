-- Each rename leads from where something is, and each rename to a staging name leads to where nothing is.
use Rattle.std.proofs.Common.{All, false, ◌≡◌, ◌≢◌, ◌⊎◌, ℕ, ◌<◌, ◌≤◌, ◌+◌, List, [], ◌∷◌, ◌++◌, Contains, length, map, take, get_or, inl, inr, refl, sym, ap, subst, ◌∙◌, append-nil, arith, ◌-◌}
use Rattle.std.specs.List.{Any, join_with_byte}
use Rattle.std.proofs.lemmas.List.{get_or-take, length-map, length-take-le, map-append, take-append-le, get_or-append-add, get_or_append_left, length-append}
use Rattle.std.proofs.lemmas.List.Elements.{All-take}
use Rattle.relative_path.specs.Steps.{Step, name, slash}
use Rattle.relative_path.specs.Naming.{file_name_of}
use Rattle.relative_path.proofs.ForCallers.{walk-names}
use Rattle.relative_path_moves.specs.Moves.{Move, move_at}
use Rattle.relative_path_places.specs.PlaceIndex.{path_at}
use Rattle.relmove_checks.specs.declared.entry.Entry.{Entry}
use Rattle.relmove_checks.specs.declared.name_rule.NameRule.{NameRule}
use Rattle.relmove_trees.specs.FileTrees.{IsUnder, names_of}
use Rattle.relmove_plan.proofs.RunWords.{rename_places, carried, renames_of, IsThereAfter, IsThing}
use Rattle.relmove_steps.specs.Actions.{ActionTexts, LeavesFrom, of_move, of_page, of_text}
use Rattle.relmove_plan.specs.WholeTrees.{IsAt}
use Rattle.relmove_plan.proofs.CarriedLemmas.{coming, leaving}
use Rattle.relmove_plan.proofs.CarriedLemmas as carrying
use Rattle.relmove_plan.proofs.KnownRunsLemmas.{IsKnownRun}
use Rattle.relmove_plan.proofs.FirstsLemmas.{FirstUnder, first_under, take-append_more}
use Rattle.relmove_plan.proofs.PlacesLemmas.{names_of-normal}
use Rattle.relmove_plan.proofs.RunsLemmas.{carried-append, carried-by, carried-elsewhere}
use Rattle.relmove_plan.proofs.SourcesLemmas.{IsUnder-first, element, get_or-map_element}
use Rattle.relmove_plan.proofs.WholeTreesLemmas.{IsNoneAt-under, not_empty}
use Rattle.std.proofs.lemmas.Bool.{cases_lt}

-- the first renames are those to the staging names
pub renames-leaving : (actions : ActionTexts) (k : ℕ) → k ≤ length actions.staged
    → take k (renames_of actions) ≡ take k (leaving actions)
renames-leaving actions k within =
    ap (take k) (map-append rename_places actions.staged actions.placed)
    ∙ take-append-le k (leaving actions) (coming actions) (rw length-map within)

-- those from the staging names come after them
pub renames-coming : (actions : ActionTexts) (m : ℕ)
    → take (length actions.staged + m) (renames_of actions) ≡ leaving actions ++ take m (coming actions)
renames-coming actions m =
    ap (take (length actions.staged + m)) (map-append rename_places actions.staged actions.placed)
    ∙ ap (λ n. take (n + m) (leaving actions ++ coming actions)) (sym (length-map actions.staged rename_places))
    ∙ take-append_more (leaving actions) (coming actions) m

-- what they carry, they carry from where it left to
pub carried-coming : (actions : ActionTexts) (m : ℕ) (place : List (List ℕ))
    → carried (take (length actions.staged + m) (renames_of actions)) place
    ≡ carried (take m (coming actions)) (carried (leaving actions) place)
carried-coming actions m place =
    ap (λ renames. carried renames place) (renames-coming actions m)
    ∙ carried-append (leaving actions) (take m (coming actions)) place

-- a rename to a staging name has its number in the run
pub get_or-leaving : (actions : ActionTexts) (i : ℕ) (step : List ℕ × List ℕ) (d : List (List ℕ) × List (List ℕ))
    → i < length actions.staged → get_or actions.staged i step ≡ step → get_or (renames_of actions) i d ≡ rename_places step
get_or-leaving actions i step d within is =
    get_or-map_element rename_places (actions.staged ++ actions.placed) i step d (rw length-append (omega (arith, within)))
    (get_or_append_left actions.staged actions.placed step i within ∙ is)

-- and one from a staging name comes after all those
pub get_or-coming : (actions : ActionTexts) (m : ℕ) (step : List ℕ × List ℕ) (d : List (List ℕ) × List (List ℕ))
    → m < length actions.placed → get_or actions.placed m step ≡ step
    → get_or (renames_of actions) (length actions.staged + m) d ≡ rename_places step
get_or-coming actions m step d within is =
    get_or-map_element rename_places (actions.staged ++ actions.placed) (length actions.staged + m) step d
    (rw length-append (omega (arith, within))) (get_or-append-add actions.staged actions.placed m step ∙ is)

pub length-renames : (actions : ActionTexts) → length (renames_of actions) ≡ length actions.staged + length actions.placed
length-renames actions =
    length-map (actions.staged ++ actions.placed) rename_places ∙ length-append actions.staged actions.placed

-- what holds of the renames to staging names and of those from there holds of each rename of a run
pub each-rename : (actions : ActionTexts) (P : ℕ → List (List ℕ) × List (List ℕ) → Type 0)
    → ((i : ℕ) (step : List ℕ × List ℕ) → i < length actions.staged → get_or actions.staged i step ≡ step
    → P i (rename_places step))
    → ((m : ℕ) (step : List ℕ × List ℕ) → m < length actions.placed → get_or actions.placed m step ≡ step
    → P (length actions.staged + m) (rename_places step))
    → (k : ℕ) (rename : List (List ℕ) × List (List ℕ)) → k < length (renames_of actions)
    → get_or (renames_of actions) k rename ≡ rename → P k rename
each-rename actions P first second k rename within is = elim (cases_lt k (length actions.staged)) [
  | inl less ↦
      let (step, at) = element actions.staged k less in
      subst (P k) (sym (get_or-leaving actions k step rename less at) ∙ is) (first k step less at)
  | inr no_less ↦
      let m : ℕ = k - length actions.staged in
      let long = length-renames actions in
      let k_is : length actions.staged + m ≡ k = omega (arith, no_less) in
      let inside : m < length actions.placed = omega (arith, no_less, within, long) in
      let (step, at) = element actions.placed m inside in
      let here : rename_places step ≡ rename =
      sym (get_or-coming actions m step rename inside at) ∙ ap (λ k. get_or (renames_of actions) k rename) k_is ∙ is in
      subst (λ k. P k rename) k_is (subst (P (length actions.staged + m)) here (second m step inside at))
]

module _ {entries : List Entry} {pages changed : List (List Step)} {moves : List Move} {rule : NameRule} {actions : ActionTexts}
    (run : IsKnownRun entries pages changed moves rule actions)
  where
    -- ---- what leaves

    -- why something leaves the path from which this rename leads
    pub leaves : (i : ℕ) (step : List ℕ × List ℕ) → i < length actions.staged → get_or actions.staged i step ≡ step
        → LeavesFrom moves changed actions.texts step.0
    leaves i step within is =
        subst (λ (step : List ℕ × List ℕ). LeavesFrom moves changed actions.texts step.0) is (run.only i step within)

    -- something is at the path from which something leaves
    pub IsThing-leaves : (i : ℕ) (step : List ℕ × List ℕ) → i < length actions.staged → get_or actions.staged i step ≡ step
        → IsThing entries actions (names_of step.0)
    IsThing-leaves i step within is = by (leaves i step within is)
      where
        by : LeavesFrom moves changed actions.texts step.0 → IsThing entries actions (names_of step.0)
        by (of_move k inside normal) =
            let (b, place, leads, at) = carrying.old_place run k inside in
            let here : place ≡ names_of step.0 = sym (names_of-normal (move_at moves k).old step.0 place normal leads) in
            inl (b, subst (λ place. Any (IsAt b place) entries) here at)
        by (of_page k inside normal) =
            let file = run.files k [] inside in
            let here : file.place ≡ names_of step.0 =
            sym (names_of-normal (path_at changed k) step.0 file.place normal file.leads) in
            inl (false, subst (λ place. Any (IsAt false place) entries) here file.file)
        by (of_text old text (j, less, is_2)) = inr (j, (old, step.0, text), less, is_2, refl)

    -- no rename before that from a path leads from there or from above
    elsewhere-leaves : (i : ℕ) (step : List ℕ × List ℕ) → i < length actions.staged → get_or actions.staged i step ≡ step
        → All (λ other. ¬ IsUnder (names_of step.0) other.0) (take i (leaving actions))
    elsewhere-leaves i step within is j d inside =
        let long : length (take i (leaving actions)) ≡ i =
        length-take-le i (leaving actions) (rw length-map (omega (arith, within))) in
        let less : j < i = omega (arith, inside, long) in
        subst (λ (other : List (List ℕ) × List (List ℕ)). ¬ IsUnder (names_of step.0) other.0)
        (sym (get_or-take i (leaving actions) j d less))
        (subst (λ (other : List (List ℕ) × List (List ℕ)). ¬ IsUnder other.0 (get_or (leaving actions) j d).0)
        (get_or-map_element rename_places actions.staged i step d within is)
        (carrying.order run j i d less (rw length-map within)))

    -- what the first rename takes along comes to a staging name
    pub carried-leaving : (k : ℕ) (place : List (List ℕ)) → k ≤ length actions.staged
        → (first : FirstUnder (take k (leaving actions)) place)
        → (step : List ℕ × List ℕ) × (first.number < k) × (get_or actions.staged first.number step ≡ step)
        × (carried (take k (leaving actions)) place ≡ step.1 ∷ first.below)
    carried-leaving k place fits first =
        let i = first.number in
        let inside = first.within in
        let long : length (take k (leaving actions)) ≡ k = length-take-le k (leaving actions) (rw length-map fits) in
        let less : i < k = omega (arith, inside, long) in
        let within : i < length actions.staged = omega (arith, less, fits) in
        let (step, is) = element actions.staged i within in
        let here : first.step ≡ rename_places step =
        sym first.here ∙ get_or-take k (leaving actions) i first.step less
        ∙ get_or-map_element rename_places actions.staged i step first.step within is in (
          step,
          less,
          is,
          carried-by (take k (leaving actions)) i first.step place first.below first.within first.here first.under
              (λ j l. first.before j first.step l)
              (subst (λ (one : List (List ℕ) × List (List ℕ)). All (λ (other : List (List ℕ) × List (List ℕ)).
              ¬ IsUnder (one.1 ++ first.below) other.0) (take k (leaving actions))) (sym here)
              (All-take (λ (other : List (List ℕ) × List (List ℕ)). ¬ IsUnder (names_of step.1 ++ first.below) other.0) k
              (leaving actions) (carrying.clear run i step first.below within is)))
              ∙ ap (λ (other : List (List ℕ) × List (List ℕ)). other.1 ++ first.below) here
              ∙ ap (λ top. top ++ first.below) (carrying.left_place run i step within is),
        )

    -- what comes to a staging name before its rename was there before the run
    pub carried-early : (i : ℕ) (step : List ℕ × List ℕ) → i < length actions.staged → get_or actions.staged i step ≡ step
        → (place : List (List ℕ)) → carried (take i (leaving actions)) place ≡ step.1 ∷ [] → place ≡ step.1 ∷ []
    carried-early i step within is place comes = by (first_under (take i (leaving actions)) place)
      where
        by : All (λ other. ¬ IsUnder place other.0) (take i (leaving actions)) ⊎ FirstUnder (take i (leaving actions)) place
            → place ≡ step.1 ∷ []
        by (inl none) = sym (carried-elsewhere (take i (leaving actions)) place none) ∙ comes
        by (inr first) =
            let (other, less, is_2, comes_2) = carried-leaving i place (omega (arith, within)) first in
            let within_2 : first.number < length actions.staged = omega (arith, less, within) in
            let same : other.1 ≡ step.1 = ap (λ place. get_or place 0 other.1) (sym comes_2 ∙ comes) in
            absurd (run.names.different first.number i [] less (rw length-map within)
            (carrying.left_at run first.number other [] within_2 is_2 ∙ same ∙ sym (carrying.left_at run i step [] within is)))

    -- nothing is at a staging name before the run
    no_thing : (i : ℕ) (step : List ℕ × List ℕ) (place : List (List ℕ)) → i < length actions.staged
        → get_or actions.staged i step ≡ step → IsThing entries actions place → place ≢ step.1 ∷ []
    no_thing i step place within is (inl (b, at)) same =
        IsNoneAt-under entries pages run.whole (map name (step.1 ∷ [])) b place (step.1 ∷ [])
        (carrying.left_unused run i step within is)
        (walk-names [] (step.1 ∷ [])) (not_empty [] step.1 []) at ([], same ∙ sym (append-nil (step.1 ∷ [])))
    no_thing i step place within is (inr (t, new, inside, is_2, here)) same =
        run.own.no_name t new inside i [] (rw length-map within)
        (ap file_name_of
        (ap (λ (new : List ℕ × List ℕ × List ℕ). new.1) is_2
        ∙ subst (λ (new : List ℕ × List ℕ × List ℕ). new.1 ≡ join_with_byte slash (names_of new.1)) is_2
        (run.own.next_to t new inside).spelled
        ∙ ap (join_with_byte slash) (here ∙ same) ∙ sym (carrying.left_at run i step [] within is)))

    -- ---- the renames to staging names

    -- something is where the rename leads from
    pub IsThere-leaves : (i : ℕ) (step : List ℕ × List ℕ) → i < length actions.staged → get_or actions.staged i step ≡ step
        → IsThereAfter entries actions i (names_of step.0)
    IsThere-leaves i step within is = record {
      start = names_of step.0;
      thing = IsThing-leaves i step within is;
      now = ap (λ renames. carried renames (names_of step.0)) (renames-leaving actions i (omega (arith, within)))
          ∙ carried-elsewhere (take i (leaving actions)) (names_of step.0) (elsewhere-leaves i step within is);
    }

    -- nothing is where the rename leads to
    pub IsFree-leaves : (i : ℕ) (step : List ℕ × List ℕ) → i < length actions.staged → get_or actions.staged i step ≡ step
        → ¬ IsThereAfter entries actions i (names_of step.1)
    IsFree-leaves i step within is there =
        no_thing i step there.start within is there.thing
        (carried-early i step within is there.start
        (ap (λ renames. carried renames there.start) (sym (renames-leaving actions i (omega (arith, within)))) ∙ there.now
        ∙ carrying.left_place run i step within is))

    -- ---- the renames from staging names

    -- what comes from a staging name, or is removed there, left to there
    pub left_to : (staging : List ℕ) → Contains (carrying.come run) staging
        → (i : ℕ) × (other : List ℕ × List ℕ) × (i < length actions.staged) × (get_or actions.staged i other ≡ other)
        × (other.1 ≡ staging)
    left_to staging has =
        let (i, inside, here) = carrying.come_left run staging has in
        let inside_2 : i < length actions.staged = rw length-map at inside in
        let (other, is) = element actions.staged i inside_2 in
        (i, other, inside_2, is, sym (carrying.left_at run i other staging inside_2 is) ∙ here)

    pub left_before : (k : ℕ) (step : List ℕ × List ℕ) → k < length actions.placed → get_or actions.placed k step ≡ step
        → (i : ℕ) × (other : List ℕ × List ℕ) × (i < length actions.staged) × (get_or actions.staged i other ≡ other)
        × (other.1 ≡ step.0)
    left_before k step within is =
        left_to step.0 (k, carrying.inside run k within, carrying.come_at run k step step.0 within is)

    -- before that rename, what left to there is still there
    pub carried-before : (k i : ℕ) (step other : List ℕ × List ℕ) → k < length actions.placed
        → get_or actions.placed k step ≡ step → i < length actions.staged → get_or actions.staged i other ≡ other
        → other.1 ≡ step.0 → carried (take (length actions.staged + k) (renames_of actions)) (names_of other.0) ≡ names_of step.0
    carried-before k i step other within is within_2 is_2 same =
        let here : carried (leaving actions) (names_of other.0) ≡ step.0 ∷ [] =
        carrying.carried-left run other.0 other.1 (i, within_2, is_2) ∙ ap (λ top. top ∷ []) same in
        carried-coming actions k (names_of other.0) ∙ ap (carried (take k (coming actions))) here
        ∙ carried-elsewhere (take k (coming actions)) (step.0 ∷ [])
        (λ j d inside under.
        let long : length (take k (coming actions)) ≡ k =
        length-take-le k (coming actions) (rw length-map (omega (arith, within))) in
        let less_2 : j < k = omega (arith, inside, long) in
        let within_3 : j < length actions.placed = omega (arith, less_2, within) in
        let (third, is_3) = element actions.placed j within_3 in
        let there : get_or (take k (coming actions)) j d ≡ rename_places third =
        get_or-take k (coming actions) j d less_2 ∙ get_or-map_element rename_places actions.placed j third d within_3 is_3 in
        carrying.name_other run j k third step (λ equal. absurd (omega (arith, equal, less_2))) within_3 within is_3 is
        (sym (IsUnder-first step.0 third.0 [] []
        (subst (IsUnder (step.0 ∷ [])) (ap (λ (step : List (List ℕ) × List (List ℕ)). step.0) there
        ∙ carrying.name_place run j third within_3 is_3) under))))
        ∙ sym (carrying.name_place run k step within is)

    -- something is where the rename leads from
    pub IsThere-comes : (k : ℕ) (step : List ℕ × List ℕ) → k < length actions.placed → get_or actions.placed k step ≡ step
        → IsThereAfter entries actions (length actions.staged + k) (names_of step.0)
    IsThere-comes k step within is =
        let (i, other, within_2, is_2, same) = left_before k step within is in
        record {
          start = names_of other.0;
          thing = IsThing-leaves i other within_2 is_2;
          now = carried-before k i step other within is within_2 is_2 same;
        }
