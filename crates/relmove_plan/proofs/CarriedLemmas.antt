-- What the renames of a run carry: things leave to staging names, and come from there.
use Rattle.std.proofs.Common.{All, Bool, Contains, List, [], ap, append-nil, arith, get_or, inl, inr, length, map, refl, subst, sym, true, ℕ, ◌++◌, ◌+◌, ◌<◌, ◌∙◌, ◌∷◌, ◌≡◌, ◌≢◌, ◌≤◌, Some, take, drop}
use Rattle.std.specs.List.{AllPairs, join_with_byte, Any}
use Rattle.std.proofs.lemmas.Bool.{cases_order}
use Rattle.std.proofs.lemmas.List.Elements.{All-map, All-append, All-drop, All-contains, All-contains_itself}
use Rattle.std.proofs.lemmas.List.Sorted.{All-permutation}
use Rattle.std.proofs.lemmas.List.{get_or_append_left, get_or_default, length-append, length-map, map-append}
use Rattle.relative_path.specs.Steps.{Step, components, name, slash}
use Rattle.relative_path_moves.specs.Moves.{Move, move_at}
use Rattle.relative_path_places.specs.PlaceIndex.{IsNoneAt}
use Rattle.relmove_checks.specs.Moves.{is_reserved_step}
use Rattle.relmove_checks.specs.Trees.{entry_paths}
use Rattle.relmove_checks.specs.declared.entry.Entry.{Entry}
use Rattle.relmove_checks.specs.declared.name_rule.NameRule.{NameRule}
use Rattle.relmove_steps.specs.StagingNames.{AreFreeNames, numbered_name}
use Rattle.relmove_trees.specs.FileTrees.{IsUnder, names_of}
use Rattle.relmove_plan.proofs.RunWords.{carried, rename_places, renames_of}
use Rattle.relmove_steps.specs.Actions.{Carries, LeavesFrom, ActionTexts, placed_names, staged_names}
use Rattle.relmove_plan.proofs.KnownRunsLemmas.{IsKnownRun}
use Rattle.relmove_steps.proofs.ForCallers.{AreFreeNames-IsPermutation}
use Rattle.relmove_plan.proofs.PlacesLemmas.{IsBelow-spelled, names_of-names}
use Rattle.relmove_plan.proofs.RunsLemmas.{IsUnder-shorter, carried-append, carried-by, carried-elsewhere, carried-take}
use Rattle.relmove_plan.proofs.SourcesLemmas.{IsFrom-apart, IsSource, IsSource-leaves, IsUnder-first, element, All-element, IsThere-place, get_or-map_element}
use Rattle.relmove_plan.proofs.WholeTreesLemmas.{front_none, not_empty, some_of}
use Rattle.relative_path.specs.Walk.{place_of}
use Rattle.relmove_plan.specs.WholeTrees.{IsAt}

-- the renames to the staging names, as places
abbrev pub leaving : ActionTexts → List (List (List ℕ) × List (List ℕ))
leaving actions = map rename_places actions.staged

-- the renames from the staging names, as places
abbrev pub coming : ActionTexts → List (List (List ℕ) × List (List ℕ))
coming actions = map rename_places actions.placed

-- the name begins as those of a run's own files
abbrev pub is_reserved_text : List ℕ → Bool
is_reserved_text n = is_reserved_step (name n)

pub is_reserved_text-numbered : (number : ℕ) → is_reserved_text (numbered_name number) ≡ true
is_reserved_text-numbered number = refl

-- no staging name is at the place or above it
abbrev pub HasNoName : List Entry → List (List ℕ) → Type 0
HasNoName entries place = (s : List ℕ) → is_reserved_text s ≡ true → IsNoneAt (entry_paths entries) (map name (s ∷ []))
    → ¬ IsUnder place (s ∷ [])

module _ {entries : List Entry} {pages changed : List (List Step)} {moves : List Move} {rule : NameRule} {actions : ActionTexts}
    (run : IsKnownRun entries pages changed moves rule actions)
  where
    -- an entry is at the old path of a move
    pub old_place : (k : ℕ) → k < length moves
        → (b : Bool) × (place : List (List ℕ)) × (place_of (move_at moves k).old ≡ Some place) × Any (IsAt b place) entries
    old_place k within =
        IsThere-place entries pages run.whole (move_at moves k).old (run.accepted.apart.come.leave.olds k within).there

    pub old_entry : (k : ℕ) → k < length moves → (place : List (List ℕ)) → place_of (move_at moves k).old ≡ Some place
        → (b : Bool) × Any (IsAt b place) entries
    old_entry k within place leads =
        let (b, old, leads_2, at) = old_place k within in
        (b, subst (λ place. Any (IsAt b place) entries) (some_of (sym leads_2 ∙ leads)) at)

    -- the paths from which something leaves, in order
    pub source : (i : ℕ) (step : List ℕ × List ℕ) → i < length actions.staged → get_or actions.staged i step ≡ step
        → IsSource entries moves changed (staged_names actions) step.0
    source i step within is =
        IsSource-leaves entries pages run.whole moves changed run.files run.accepted.apart.come.leave.olds actions run.own step.0
        (subst (λ (step : List ℕ × List ℕ). LeavesFrom moves changed actions.texts step.0) is (run.only i step within))

    -- what is above a path leaves after it, and nothing leaves twice
    pub order : AllPairs (λ one other. ¬ IsUnder other.0 one.0) (map rename_places actions.staged)
    order = λ i j d less within under.
        let w : j < length actions.staged = rw length-map at within in
        let v : i < length actions.staged = omega (arith, less, w) in
        let (step, is) = element actions.staged i v in
        let (other, is_2) = element actions.staged j w in
        let here = get_or-map_element rename_places actions.staged i step d v is in
        let here_2 = get_or-map_element rename_places actions.staged j other d w is_2 in
        let one = source i step v is in
        let two = source j other w is_2 in
        let (below, down) = under in
        let split : two.place ≡ one.place ++ below =
        sym two.named ∙ sym (ap (λ (step : List (List ℕ) × List (List ℕ)). step.0) here_2) ∙ down
        ∙ ap (λ (step : List (List ℕ) × List (List ℕ)). step.0 ++ below) here
        ∙ ap (λ place. place ++ below) one.named in
        by i j step other less v w is is_2 one two below split
      where
        by : (i j : ℕ) (step other : List ℕ × List ℕ) → i < j → i < length actions.staged → j < length actions.staged
            → get_or actions.staged i step ≡ step → get_or actions.staged j other ≡ other
            → (one : IsSource entries moves changed (staged_names actions) step.0)
            (two : IsSource entries moves changed (staged_names actions) other.0)
            → (below : List (List ℕ)) → two.place ≡ one.place ++ below → ⊥
        by i j step other less v w is is_2 one two [] split =
            run.once i j step less w
            (ap (λ (step : List ℕ × List ℕ). step.0) is ∙ one.spelled
            ∙ ap (join_with_byte slash) (sym (split ∙ append-nil one.place)) ∙ sym two.spelled
            ∙ ap (λ (step : List ℕ × List ℕ). step.0) (sym is_2 ∙ get_or_default actions.staged j other step w))
        by i j step other less v w is is_2 one two (n ∷ below) split =
            let first : List ℕ × List ℕ → List ℕ = λ step. step.0 in
            run.below_first i j less (rw length-map w)
            (IsBelow-spelled (get_or (map first actions.staged) i []) (get_or (map first actions.staged) j []) one.place n below one.some
            (get_or-map_element first actions.staged i step [] v is ∙ one.spelled)
            (get_or-map_element first actions.staged j other [] w is_2 ∙ two.spelled ∙ ap (join_with_byte slash) split))

    -- ---- the names to which something leaves

    -- the name to which a rename leads, by its number
    pub left_at : (i : ℕ) (step : List ℕ × List ℕ) (d : List ℕ) → i < length actions.staged
        → get_or actions.staged i step ≡ step
        → get_or (staged_names actions) i d ≡ step.1
    left_at i step d within is =
        get_or-map_element (λ (step : List ℕ × List ℕ). step.1) actions.staged i step d within is

    -- the name is one of those to which something leaves
    pub has_name : (i : ℕ) (step : List ℕ × List ℕ) → i < length actions.staged → get_or actions.staged i step ≡ step
        → Contains (staged_names actions) step.1
    has_name i step within is = (i, rw length-map within, left_at i step step.1 within is)

    -- such a name is one name, no entry is there, and it is one of a run's own
    pub staging_single : (staging : List ℕ) → Contains (staged_names actions) staging → components staging ≡ name staging ∷ []
    staging_single staging =
        All-contains (λ (staging : List ℕ). components staging ≡ name staging ∷ []) (staged_names actions) staging run.single

    staging_place : (staging : List ℕ) → Contains (staged_names actions) staging → names_of staging ≡ staging ∷ []
    staging_place staging has = names_of-names staging (staging ∷ []) (staging_single staging has)

    pub staging_unused : (staging : List ℕ) → Contains (staged_names actions) staging
        → IsNoneAt (entry_paths entries) (map name (staging ∷ []))
    staging_unused staging has =
        subst (IsNoneAt (entry_paths entries)) (staging_single staging has)
        (All-contains (λ (staging : List ℕ). IsNoneAt (entry_paths entries) (components staging)) (staged_names actions) staging
        run.names.unused has)

    pub staging_own : (staging : List ℕ) → Contains (staged_names actions) staging → is_reserved_text staging ≡ true
    staging_own staging has =
        let (number, numbered) =
        All-contains (λ (staging : List ℕ). (n : ℕ) × (staging ≡ numbered_name n)) (staged_names actions) staging run.names.numbered
        has in
        ap is_reserved_text numbered ∙ is_reserved_text-numbered number

    pub left_place : (i : ℕ) (step : List ℕ × List ℕ) → i < length actions.staged → get_or actions.staged i step ≡ step
        → names_of step.1 ≡ step.1 ∷ []
    left_place i step within is = staging_place step.1 (has_name i step within is)

    pub left_unused : (i : ℕ) (step : List ℕ × List ℕ) → i < length actions.staged → get_or actions.staged i step ≡ step
        → IsNoneAt (entry_paths entries) (map name (step.1 ∷ []))
    left_unused i step within is = staging_unused step.1 (has_name i step within is)

    -- nothing leaves from a staging name or from below it
    pub clear : (i : ℕ) (step : List ℕ × List ℕ) (below : List (List ℕ)) → i < length actions.staged
        → get_or actions.staged i step ≡ step
        → All (λ other. ¬ IsUnder (names_of step.1 ++ below) other.0) (leaving actions)
    clear i step below within is =
        All-map (λ other. ¬ IsUnder (names_of step.1 ++ below) other.0) rename_places actions.staged
        (All-element (λ (other : List ℕ × List ℕ). ¬ IsUnder (names_of step.1 ++ below) (names_of other.0)) actions.staged
        (λ j other l is_2 under.
        let src = source j other l is_2 in
        IsFrom-apart entries pages run.whole moves changed run.files run.accepted.apart.come.leave.olds actions run.own step.1
        below src.place src.is_from src.some
        (left_unused i step within is) (has_name i step within is)
        (subst (IsUnder (step.1 ∷ below)) src.named
        (subst (λ top. IsUnder (top ++ below) (names_of other.0)) (left_place i step within is) under))))

    -- ---- the names from which something comes

    abbrev pub come : List (List ℕ)
    come = placed_names actions ++ actions.removed

    pub free_come : AreFreeNames (entry_paths entries) come
    free_come = AreFreeNames-IsPermutation (entry_paths entries) (staged_names actions) come run.nothing_lost run.names

    -- what comes, or is removed, left before
    pub come_left : (staging : List ℕ) → Contains come staging → Contains (staged_names actions) staging
    come_left staging =
        All-contains (Contains (staged_names actions)) come staging
        (All-permutation (Contains (staged_names actions)) (staged_names actions) come run.nothing_lost
        (All-contains_itself (staged_names actions)))

    pub long_come : length come ≡ length actions.placed + length actions.removed
    long_come = length-append (placed_names actions) actions.removed ∙ ap (λ n. n + length actions.removed)
        (length-map actions.placed (λ (step : List ℕ × List ℕ). step.0))

    -- the name from which something comes
    pub come_at : (k : ℕ) (step : List ℕ × List ℕ) (d : List ℕ) → k < length actions.placed
        → get_or actions.placed k step ≡ step → get_or come k d ≡ step.0
    come_at k step d within is =
        get_or_append_left (placed_names actions) actions.removed d k (rw length-map within)
        ∙ get_or-map_element (λ (step : List ℕ × List ℕ). step.0) actions.placed k step d within is

    pub inside : (k : ℕ) → k < length actions.placed → k < length come
    inside k within = omega (arith, within, long_come)

    pub come_name : (k : ℕ) (step : List ℕ × List ℕ) → k < length actions.placed → get_or actions.placed k step ≡ step
        → Contains (staged_names actions) step.0
    come_name k step within is = come_left step.0 (k, inside k within, come_at k step step.0 within is)

    -- a name as a place
    pub name_place : (k : ℕ) (step : List ℕ × List ℕ) → k < length actions.placed → get_or actions.placed k step ≡ step
        → names_of step.0 ≡ step.0 ∷ []
    name_place k step within is = staging_place step.0 (come_name k step within is)

    pub name_unused : (k : ℕ) (step : List ℕ × List ℕ) → k < length actions.placed → get_or actions.placed k step ≡ step
        → IsNoneAt (entry_paths entries) (map name (step.0 ∷ []))
    name_unused k step within is = staging_unused step.0 (come_name k step within is)

    pub name_own : (k : ℕ) (step : List ℕ × List ℕ) → k < length actions.placed → get_or actions.placed k step ≡ step
        → is_reserved_text step.0 ≡ true
    name_own k step within is = staging_own step.0 (come_name k step within is)

    -- two names from which something comes
    pub name_other : (j k : ℕ) (step other : List ℕ × List ℕ) → j ≢ k → j < length actions.placed → k < length actions.placed
        → get_or actions.placed j step ≡ step → get_or actions.placed k other ≡ other → step.0 ≢ other.0
    name_other j k step other differ within within_2 is is_2 same = elim (cases_order j k) [
      | inl equal ↦ differ equal
      | inr (inl less) ↦
          free_come.different j k [] less (inside k within_2)
          (come_at j step [] within is ∙ same ∙ sym (come_at k other [] within_2 is_2))
      | inr (inr more) ↦
          free_come.different k j [] more (inside j within)
          (come_at k other [] within_2 is_2 ∙ sym same ∙ sym (come_at j step [] within is))
    ]

    -- none of the renames from staging names leads from there
    pub placed_clear : (place : List (List ℕ)) → ((step : List ℕ × List ℕ) → Contains actions.placed step
        → ¬ IsUnder place (step.0 ∷ [])) → All (λ step. ¬ IsUnder place step.0) (coming actions)
    placed_clear place none =
        All-map (λ step. ¬ IsUnder place step.0) rename_places actions.placed
        (All-element (λ (step : List ℕ × List ℕ). ¬ IsUnder place (names_of step.0)) actions.placed
        (λ j step l is under. none step (j, l, is) (subst (IsUnder place) (name_place j step l is) under)))

    -- nor from where no staging name is
    pub end_clear : (place : List (List ℕ)) → HasNoName entries place → All (λ step. ¬ IsUnder place step.0) (coming actions)
    end_clear place ends =
        placed_clear place
        (λ step (j, l, is). ends step.0 (name_own j step l is) (name_unused j step l is))

    -- nothing leaves from the root or comes from there
    pub root_left : All (λ step. ¬ IsUnder [] step.0) (leaving actions)
    root_left =
        All-map (λ step. ¬ IsUnder [] step.0) rename_places actions.staged
        (All-element (λ (step : List ℕ × List ℕ). ¬ IsUnder [] (names_of step.0)) actions.staged
        (λ j step l is (rest, down).
        let src = source j step l is in src.some (sym src.named ∙ front_none (names_of step.0) rest down)))

    pub root_come : All (λ step. ¬ IsUnder [] step.0) (coming actions)
    root_come = placed_clear [] (λ step has (rest, down). not_empty [] step.0 rest (sym down))

    pub root_clear : All (λ step. ¬ IsUnder [] step.0) (renames_of actions)
    root_clear =
        subst (All (λ (step : List (List ℕ) × List (List ℕ)). ¬ IsUnder [] step.0))
        (sym (map-append rename_places actions.staged actions.placed))
        (All-append (λ (step : List (List ℕ) × List (List ℕ)). ¬ IsUnder [] step.0) (leaving actions) (coming actions) root_left
        root_come)

    -- ---- what is carried

    -- first things leave, and then they come
    pub carried-in_turn : (place : List (List ℕ))
        → carried (renames_of actions) place ≡ carried (coming actions) (carried (leaving actions) place)
    carried-in_turn place =
        ap (λ renames. carried renames place) (map-append rename_places actions.staged actions.placed)
        ∙ carried-append (leaving actions) (coming actions) place

    -- something leaves with what is above its place, to a staging name
    pub carried-leaves : (from staging : List ℕ) (place below : List (List ℕ)) → Contains actions.staged (from, staging)
        → place ≡ names_of from ++ below
        → All (λ step. IsUnder place (names_of step.0) → length (names_of step.0) ≤ length (names_of from)) actions.staged
        → carried (leaving actions) place ≡ staging ∷ below
    carried-leaves from staging place below (i, within, is) under nearest =
        carried-by (leaving actions) i leaves place below within_2 here under
        (λ j l under_2.
        order j i leaves l within_2
        (subst (λ (step : List (List ℕ) × List (List ℕ)). IsUnder step.0 (get_or (leaving actions) j leaves).0) (sym here)
        (IsUnder-shorter place (get_or (leaving actions) j leaves).0 leaves.0 under_2 (below, under)
        (All-map (λ step. IsUnder place step.0 → length step.0 ≤ length leaves.0) rename_places actions.staged nearest j leaves
        (omega (arith, l, within_2)) under_2))))
        (clear i (from, staging) below within is)
        ∙ ap (λ top. top ++ below) (left_place i (from, staging) within is)
      where
        leaves : List (List ℕ) × List (List ℕ)
        leaves = rename_places (from, staging)

        within_2 : i < length (leaving actions)
        within_2 = rw length-map within

        here : get_or (leaving actions) i leaves ≡ leaves
        here = get_or-map_element rename_places actions.staged i (from, staging) leaves within is

    -- what leaves its own path comes to the staging name
    pub carried-left : (from staging : List ℕ) → Contains actions.staged (from, staging)
        → carried (leaving actions) (names_of from) ≡ staging ∷ []
    carried-left from staging leaves =
        carried-leaves from staging (names_of from) [] leaves (sym (append-nil (names_of from)))
        (λ j d l (below, is).
        let long = ap length is ∙ length-append (names_of (get_or actions.staged j d).0) below in
        omega (arith, long))

    -- what is where no staging name is stays there
    pub carried-unmoved : (place : List (List ℕ)) → HasNoName entries place → carried (coming actions) place ≡ place
    carried-unmoved place ends = carried-elsewhere (coming actions) place (end_clear place ends)

    -- what some of these renames carry to such a place stays there
    pub carried-settled : (m : ℕ) (place end : List (List ℕ)) → carried (take m (coming actions)) place ≡ end
        → HasNoName entries end → carried (coming actions) place ≡ end
    carried-settled m place end comes ends =
        carried-take (coming actions) m place ∙ ap (carried (drop m (coming actions))) comes
        ∙ carried-elsewhere (drop m (coming actions)) end
        (All-drop (λ (step : List (List ℕ) × List (List ℕ)). ¬ IsUnder end step.0) m (coming actions) (end_clear end ends))

    -- what is at a staging name, or below it, comes with it
    pub carried-on : (staging to : List ℕ) (below target : List (List ℕ)) → Contains actions.placed (staging, to)
        → names_of to ≡ target → HasNoName entries (target ++ below)
        → carried (coming actions) (staging ∷ below) ≡ target ++ below
    carried-on staging to below target (k, within, is) arrives ends =
        carried-by (coming actions) k comes (staging ∷ below) below (rw length-map within) here
        (ap (λ top. top ++ below) (sym (name_place k (staging, to) within is)))
        (λ j l under.
        let w : j < length actions.placed = omega (arith, l, within) in
        let (step, is_2) = element actions.placed j w in
        let here_2 = get_or-map_element rename_places actions.placed j step comes w is_2 in
        name_other j k step (staging, to) (λ same. absurd (omega (arith, l, same))) w within is_2 is
        (sym (IsUnder-first staging step.0 below []
        (subst (IsUnder (staging ∷ below))
        (ap (λ (step : List (List ℕ) × List (List ℕ)). step.0) here_2 ∙ name_place j step w is_2) under))))
        (subst (λ top. All (λ (step : List (List ℕ) × List (List ℕ)). ¬ IsUnder (top ++ below) step.0) (coming actions))
        (sym arrives) (end_clear (target ++ below) ends))
        ∙ ap (λ top. top ++ below) arrives
      where
        comes : List (List ℕ) × List (List ℕ)
        comes = rename_places (staging, to)

        here : get_or (coming actions) k comes ≡ comes
        here = get_or-map_element rename_places actions.placed k (staging, to) comes within is

    -- something leaves with what is above its place, to a staging name, and comes from there to another path
    pub carried-carries : (from to : List ℕ) (place below target : List (List ℕ)) → Carries actions from to
        → place ≡ names_of from ++ below
        → All (λ step. IsUnder place (names_of step.0) → length (names_of step.0) ≤ length (names_of from)) actions.staged
        → names_of to ≡ target → HasNoName entries (target ++ below)
        → carried (renames_of actions) place ≡ target ++ below
    carried-carries from to place below target carries under nearest arrives ends =
        carried-in_turn place
        ∙ ap (carried (coming actions)) (carried-leaves from carries.staging place below carries.leaves under nearest)
        ∙ carried-on carries.staging to below target carries.comes arrives ends

    -- ---- what doesn't move

    -- what is neither at a path from which something leaves nor below one stays
    pub carried-left_alone : (place : List (List ℕ)) → All (λ step. ¬ IsUnder place (names_of step.0)) actions.staged
        → carried (leaving actions) place ≡ place
    carried-left_alone place apart =
        carried-elsewhere (leaving actions) place (All-map (λ step. ¬ IsUnder place step.0) rename_places actions.staged apart)

    -- what leaves its own path comes to another
    pub carried-from : (from to : List ℕ) (target : List (List ℕ)) → Carries actions from to → names_of to ≡ target
        → HasNoName entries target → carried (renames_of actions) (names_of from) ≡ target
    carried-from from to target carries arrives ends =
        carried-in_turn (names_of from) ∙ ap (carried (coming actions)) (carried-left from carries.staging carries.leaves)
        ∙ carried-on carries.staging to [] target carries.comes arrives (subst (HasNoName entries) (sym (append-nil target)) ends)
        ∙ append-nil target
