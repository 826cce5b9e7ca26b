-- Each entry comes to where the moves take it, and each new text to the new path of its page.
use Rattle.std.proofs.Common.{All, Bool, false, true≢false, ◌≡◌, ◌≢◌, ℕ, ◌<◌, ◌≤◌, List, [], ◌∷◌, ◌++◌, Contains, Option, Some, None, IsSome, length, map, take, get_or, inl, inr, refl, sym, ap, subst, ◌∙◌, arith}
use Rattle.std.proofs.lemmas.Bool.{or_parts}
use Rattle.std.specs.Option.{option_and_then}
use Rattle.std.specs.List.{Any, list_any}
use Rattle.std.proofs.lemmas.List.{length-append}
use Rattle.std.proofs.lemmas.List.Elements.{All-nil, All-push, All-take}
use Rattle.relative_path.specs.Steps.{Step, cur, up, name}
use Rattle.relative_path.specs.Walk.{place_of, walk}
use Rattle.relative_path.specs.Normalizing.{IsNormalTextOf}
use Rattle.relative_path.specs.Editing.{kept}
use Rattle.relative_path.specs.Naming.{last_name}
use Rattle.relative_path.proofs.ForCallers.{IsSame-last_name, walk-append, walk-append_some, walk-names}
use Rattle.relative_path_moves.specs.Moves.{Move, move_at}
use Rattle.relative_path_places.specs.PlaceIndex.{IsNoneAt, path_at}
use Rattle.relative_path_moves.specs.TreeMoves.{IsLeftInPlace, IsTakenTo, IsTreePath, TakesAlong}
use Rattle.relmove_checks.specs.declared.entry.Entry.{Entry}
use Rattle.relmove_checks.specs.declared.name_rule.NameRule.{NameRule}
use Rattle.relmove_checks.specs.Moves.{is_reserved_step}
use Rattle.relmove_trees.specs.FileTrees.{IsUnder, names_of}
use Rattle.relmove_plan.proofs.RunWords.{carried, renames_of}
use Rattle.relmove_steps.specs.Actions.{ActionTexts}
use Rattle.relmove_plan.specs.MovedTrees.{AreTakenTo}
use Rattle.relmove_plan.specs.WholeTrees.{IsAt, LeadsToFile}
use Rattle.relmove_plan.proofs.CarriedLemmas.{HasNoName, coming, is_reserved_text, leaving}
use Rattle.relmove_plan.proofs.CarriedLemmas as carrying
use Rattle.relmove_plan.proofs.KnownRunsLemmas.{IsKnownRun}
use Rattle.relmove_plan.proofs.PlacesLemmas.{names_of-normal}
use Rattle.relmove_plan.proofs.RunsLemmas.{carried-elsewhere}
use Rattle.relmove_plan.proofs.SourcesLemmas.{All-element, IsFrom-under, IsUnder-first}
use Rattle.relmove_plan.proofs.WholeTreesLemmas.{IsAt-some, IsNoneAt-under, IsSame-one_place, LeadsToFile-under, front_none, not_empty, some_append, some_of}

-- ---- names of a run's own

-- none of the names of a place is one of a run's own
abbrev pub NotReserved : List (List ℕ) → Type 0
NotReserved place = All (λ n. is_reserved_text n ≡ false) place

-- names that aren't a run's own lead to none that is
walk-reserved : (cs : List Step) (base place : List (List ℕ)) → list_any is_reserved_step cs ≡ false → NotReserved base
    → walk base cs ≡ Some place → NotReserved place
walk-reserved [] base place none fine leads = subst NotReserved (some_of leads) fine
walk-reserved (cur ∷ cs) base place none fine leads = walk-reserved cs base place none fine leads
walk-reserved (up ∷ cs) [] place none fine leads = absurd (let e = leads in cc)
walk-reserved (up ∷ cs) (n ∷ base) place none fine leads =
    walk-reserved cs (take (length base) (n ∷ base)) place none
    (All-take (λ n. is_reserved_text n ≡ false) (length base) (n ∷ base) fine) leads
walk-reserved (name n ∷ cs) base place none fine leads =
    let parts = or_parts (is_reserved_text n) (list_any is_reserved_step cs) none in
    walk-reserved cs (base ++ n ∷ []) place parts.1 (All-push (λ n. is_reserved_text n ≡ false) base n fine parts.0) leads

-- the place of the new path of move number j: it isn't the root, none of its names is a run's own, and the target leads below
pub record IsNewPlace (moves : List Move) (target : List Step) (j : ℕ) (below : List (List ℕ)) : Type 0 where
  pub within : j < length moves
  pub top : List (List ℕ)
  pub leads : place_of (move_at moves j).new ≡ Some top
  pub some : top ≢ []
  pub fine : NotReserved top
  pub arrives : place_of target ≡ Some (top ++ below)

-- only moves carry the place along: what leaves from there or from above it is moved, no page that changes is there or above
-- it, and nothing comes from there
pub record IsMovedAlong (entries : List Entry) (changed : List (List Step)) (moves : List Move) (actions : ActionTexts)
    (place : List (List ℕ)) : Type 0 where
  pub leaves : (i : ℕ) (step : List ℕ × List ℕ) → i < length actions.staged → get_or actions.staged i step ≡ step
      → (below : List (List ℕ)) → place ≡ names_of step.0 ++ below → (k : ℕ) × TakesAlong moves place k below
  pub page : (k : ℕ) → k < length changed → (file : LeadsToFile entries (path_at changed k)) → ¬ IsUnder place file.place
  pub comes : All (λ step. ¬ IsUnder place step.0) (coming actions)

module _ {entries : List Entry} {pages changed : List (List Step)} {moves : List Move} {rule : NameRule} {actions : ActionTexts}
    (run : IsKnownRun entries pages changed moves rule actions)
  where
    -- ---- new paths

    pub value : (o : Option (List (List ℕ))) → IsSome o → (place : List (List ℕ)) × (o ≡ Some place)
    value None some = absurd (true≢false (sym some))
    value (Some place) some = (place, refl)

    -- the place of the new path of a move: none of its names is a run's own
    pub new_place : (j : ℕ) → j < length moves
        → (place : List (List ℕ)) × (place_of (move_at moves j).new ≡ Some place) × (place ≢ []) × NotReserved place
    new_place j within =
        let is = run.accepted.apart.come.leave.paths j within in
        let (place, leads) = value (place_of (move_at moves j).new) is.placed.new in (
          place,
          leads,
          named (move_at moves j).new place (λ none. is.placed.named (inr none)) leads,
          walk-reserved (move_at moves j).new [] place is.not_reserved_new (All-nil (λ n. is_reserved_text n ≡ false)) leads,
        )
      where
        named : (cs : List Step) (place : List (List ℕ)) → last_name cs ≢ None → place_of cs ≡ Some place → place ≢ []
        named cs place some leads = by (last_name cs) refl
          where
            by : (o : Option (List ℕ)) → last_name cs ≡ o → place ≢ []
            by None none = absurd (some none)
            by (Some n) is =
                let there : walk [] (kept cs ++ name n ∷ []) ≡ Some place =
                sym ((IsSame-last_name cs n is).everywhere []) ∙ leads in
                let (top, leads_2, down) = walk-append_some [] place (kept cs) (name n ∷ []) there in
                let split : top ++ n ∷ [] ≡ place = some_of (sym (walk-names top (n ∷ [])) ∙ down) in
                λ none. not_empty top n [] (split ∙ none)

    pub HasNoName-reserved : (place below : List (List ℕ)) → place ≢ [] → NotReserved place → HasNoName entries (place ++ below)
    HasNoName-reserved [] below some fine = absurd (some refl)
    HasNoName-reserved (n ∷ place) below some fine = λ s own_2 unused under.
        let same : n ≡ s = IsUnder-first n s (place ++ below) [] under in
        true≢false (sym own_2 ∙ ap is_reserved_text (sym same) ∙ fine 0 n (omega arith))

    pub HasNoName-entry : (b : Bool) (place : List (List ℕ)) → Any (IsAt b place) entries → HasNoName entries place
    HasNoName-entry b place at s own_2 unused =
        IsNoneAt-under entries pages run.whole (map name (s ∷ [])) b place (s ∷ []) unused (walk-names [] (s ∷ []))
        (not_empty [] s []) at

    -- where a new path and names below it lead
    pub place-below : (cs : List Step) (place below : List (List ℕ)) → place_of cs ≡ Some place
        → place_of (cs ++ map name below) ≡ Some (place ++ below)
    place-below cs place below leads =
        walk-append [] cs (map name below)
        ∙ ap (option_and_then (λ place. walk place (map name below))) leads
        ∙ walk-names place below

    -- where the nearest move takes a list
    pub taken_place : (cs target : List Step) (taken : IsTakenTo moves cs target) → IsNewPlace moves target taken.move taken.below
    taken_place cs target taken =
        let j = taken.move in
        let (top, leads, some, fine) = new_place j taken.nearest.takes.within in
        record {
          within = taken.nearest.takes.within;
          top = top;
          leads = leads;
          some = some;
          fine = fine;
          arrives = ap place_of taken.new ∙ place-below (move_at moves j).new top taken.below leads;
        }

    -- ---- what moves carry along

    module _ (cs : List Step) (place : List (List ℕ)) (leads : place_of cs ≡ Some place)
        (moved : IsMovedAlong entries changed moves actions place)
      where
        -- the old path of the nearest move leads there or above it
        taken-down : (target : List Step) (taken : IsTakenTo moves cs target) (from : List ℕ)
            → IsNormalTextOf (move_at moves taken.move).old from → place ≡ names_of from ++ taken.below
        taken-down target taken from is =
            some_of (sym leads ∙ taken.leads) ∙ taken.nearest.takes.down
            ∙ ap (λ top. top ++ taken.below)
            (sym (names_of-normal (move_at moves taken.move).old from taken.nearest.takes.top is taken.nearest.takes.old))

        -- and nothing leaves from nearer
        nearest-leaves : (target : List Step) (taken : IsTakenTo moves cs target) (from : List ℕ)
            → IsNormalTextOf (move_at moves taken.move).old from
            → All (λ step. IsUnder place (names_of step.0) → length (names_of step.0) ≤ length (names_of from)) actions.staged
        nearest-leaves target taken from is =
            All-element
            (λ (step : List ℕ × List ℕ). IsUnder place (names_of step.0) → length (names_of step.0) ≤ length (names_of from))
            actions.staged
            (λ i step within step_is (rest, down).
            let (k, takes) = moved.leaves i step within step_is rest down in
            let place_is : taken.place ≡ place = some_of (sym taken.leads ∙ leads) in
            let more : length taken.below ≤ length rest =
            taken.nearest.nearest k rest (subst (λ place. TakesAlong moves place k rest) (sym place_is) takes) in
            let long = ap length (sym down ∙ taken-down target taken from is) in
            let long_2 = length-append (names_of step.0) rest in
            let long_3 = length-append (names_of from) taken.below in
            omega (arith, more, long, long_2, long_3))

        -- so it leaves to the name to which this old path leaves
        pub carried-taken : (target : List Step) (taken : IsTakenTo moves cs target) (from staging : List ℕ)
            → IsNormalTextOf (move_at moves taken.move).old from → Contains actions.staged (from, staging)
            → carried (leaving actions) place ≡ staging ∷ taken.below
        carried-taken target taken from staging is has =
            carrying.carried-leaves run from staging place taken.below has (taken-down target taken from is)
            (nearest-leaves target taken from is)

        -- nothing leaves from there or from above, if no move takes it along
        pub carried-left_in_place : IsLeftInPlace moves cs → carried (leaving actions) place ≡ place
        carried-left_in_place left =
            carrying.carried-left_alone run place
            (All-element (λ (step : List ℕ × List ℕ). ¬ IsUnder place (names_of step.0)) actions.staged
            (λ i step within is (below, down).
            let (k, takes) = moved.leaves i step within is below down in
            left place k below leads takes))

        -- the nearest move carries it to below the new path
        carried-moved : (target : List Step) → (taken : IsTakenTo moves cs target) → (end : List (List ℕ))
            → place_of target ≡ Some end → carried (renames_of actions) place ≡ end
        carried-moved target taken end arrives =
            let new = taken_place cs target taken in
            let carries = (run.moved taken.move new.within).carries unchanged in
            carrying.carried-carries run carries.old carries.new place taken.below new.top carries.carries
            (taken-down target taken carries.old carries.old_of) (nearest-leaves target taken carries.old carries.old_of)
            (names_of-normal (move_at moves taken.move).new carries.new new.top carries.new_of new.leads)
            (HasNoName-reserved new.top taken.below new.some new.fine)
            ∙ some_of (sym new.arrives ∙ arrives)
          where
            unchanged : IsNoneAt changed (move_at moves taken.move).old
            unchanged k within same =
                let file = run.files k [] within in
                let top_is : taken.nearest.takes.top ≡ file.place =
                some_of (sym taken.nearest.takes.old ∙ same.everywhere [] ∙ file.leads) in
                moved.page k within file
                (taken.below, some_of (sym leads ∙ taken.leads) ∙ taken.nearest.takes.down ∙ ap (λ top. top ++ taken.below) top_is)

        -- the renames carry it to where the moves take it
        pub carried-target : (target : List Step) → IsTreePath moves cs target → (end : List (List ℕ))
            → place_of target ≡ Some end → carried (renames_of actions) place ≡ end
        carried-target target (inl taken) end arrives = carried-moved target taken end arrives
        carried-target target (inr (left, same)) end arrives =
            carrying.carried-in_turn run place ∙ ap (carried (coming actions)) (carried-left_in_place left)
            ∙ carried-elsewhere (coming actions) place moved.comes
            ∙ some_of (sym leads ∙ sym (ap place_of same) ∙ arrives)

    -- ---- entries

    -- an entry that isn't a page that changes is carried by moves only
    pub IsMovedAlong-entry : (b : Bool) (place : List (List ℕ)) → Any (IsAt b place) entries → IsNoneAt changed (map name place)
        → IsMovedAlong entries changed moves actions place
    IsMovedAlong-entry b place at unchanged = record {
      leaves = λ i step within is below down.
          let src = carrying.source run i step within is in
          IsFrom-under entries pages run.whole moves changed run.files run.accepted.apart.come.leave.olds actions run.own b place
          src.place below src.is_from at unchanged (down ∙ ap (λ top. top ++ below) src.named) src.some;
      page = λ k within file under.
          let here = LeadsToFile-under entries pages run.whole (path_at changed k) b place file at under in
          unchanged k within (IsSame-one_place place (walk-names [] place) (file.leads ∙ ap Some (sym here)));
      comes = carrying.end_clear run place (HasNoName-entry b place at);
    }

    -- where the moves take an entry: not to the root, and no staging name is there
    pub entry_place : (b : Bool) (cs target : List Step) (start : List (List ℕ)) → place_of cs ≡ Some start
        → Any (IsAt b start) entries → IsTreePath moves cs target
        → (place : List (List ℕ)) × (place_of target ≡ Some place) × (place ≢ []) × HasNoName entries place
    entry_place b cs target start leads at (inl taken) =
        let new = taken_place cs target taken in (
          new.top ++ taken.below,
          new.arrives,
          some_append new.top taken.below new.some,
          HasNoName-reserved new.top taken.below new.some new.fine,
        )
    entry_place b cs target start leads at (inr (left, same)) =
        (start, ap place_of same ∙ leads, IsAt-some entries pages run.whole b start at, HasNoName-entry b start at)

    -- no move takes the root along
    pub AreTakenTo-root : AreTakenTo moves [] []
    AreTakenTo-root = ([], inr (left, refl), refl)
      where
        left : IsLeftInPlace moves []
        left place j below leads takes =
            let (b, at) = carrying.old_entry run j takes.within takes.top takes.old in
            IsAt-some entries pages run.whole b takes.top at (front_none takes.top below (some_of leads ∙ takes.down))

    -- ---- new texts

    -- the place to which the moves take a file: no staging name is there
    pub target_place : (cs target : List Step) → LeadsToFile entries cs → IsTreePath moves cs target
        → (place : List (List ℕ)) × (place_of target ≡ Some place) × (place ≢ []) × HasNoName entries place
    target_place cs target file = entry_place false cs target file.place file.leads file.file
