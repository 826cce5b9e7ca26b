-- The renames from staging names: none of those names is where such a rename leads to, or above it.
use Rattle.std.proofs.Common.{◌≡◌, ◌≢◌, ◌⊎◌, ℕ, ◌<◌, ◌+◌, List, [], Contains, Some, length, map, get_or, inl, inr, refl, sym, ap, subst, ◌∙◌, append-nil, arith}
use Rattle.std.specs.List.{AllPairs, join_with_byte}
use Rattle.std.proofs.lemmas.Bool.{cases_order}
use Rattle.std.proofs.lemmas.List.{get_or-append-add, get_or_default, length-append, length-map}
use Rattle.relative_path.specs.Steps.{Step, components, name, slash}
use Rattle.relative_path.specs.Walk.{place_of, IsSame}
use Rattle.relative_path.specs.Normalizing.{IsNormalTextOf}
use Rattle.relative_path.proofs.ForCallers.{IsSame-place, IsSame-sym, IsSame-trans, components-place}
use Rattle.relative_path_moves.specs.Moves.{Move, move_at}
use Rattle.relative_path_places.specs.PlaceIndex.{IsNoneAt, path_at}
use Rattle.relative_path_moves.specs.TreeMoves.{AtTreePath, IsTreePath}
use Rattle.relmove_checks.specs.declared.entry.Entry.{Entry}
use Rattle.relmove_checks.specs.declared.name_rule.NameRule.{NameRule}
use Rattle.relmove_trees.specs.FileTrees.{names_of}
use Rattle.relmove_steps.specs.Actions.{ActionTexts, Carries, LeavesFrom, RemovesAt, of_move, of_page, of_text, placed_names, CarriesMove}
use Rattle.relmove_plan.proofs.CarriedLemmas.{HasNoName}
use Rattle.relmove_plan.proofs.CarriedLemmas as carrying
use Rattle.relmove_plan.proofs.ArrivalsLemmas as arrivals
use Rattle.relmove_plan.proofs.KnownRunsLemmas.{IsKnownRun}
use Rattle.relmove_plan.proofs.FirstsLemmas.{one_at_or}
use Rattle.relmove_plan.proofs.PlacesLemmas.{names_of-normal, spelled-place}
use Rattle.relmove_plan.proofs.SourcesLemmas.{element}
use Rattle.relmove_plan.proofs.WholeTreesLemmas.{IsSame-one_place}

-- elements with equal keys are one element, if no two elements have the same key
pub one_by_key : {X : Type 0} (key : X → List ℕ) (xs : List X) → AllPairs (λ one other. key one ≢ key other) xs → (x y : X)
    → Contains xs x → Contains xs y → key x ≡ key y → x ≡ y
one_by_key key xs differ x y (i, within, is) (j, within_2, is_2) same = elim (cases_order i j) [
  | inl equal ↦
      sym is ∙ ap (λ k. get_or xs k x) equal ∙ get_or_default xs j x y within_2 ∙ is_2
  | inr (inl less) ↦
      absurd (differ i j x less within_2 (ap key is ∙ same ∙ ap key (sym is_2 ∙ get_or_default xs j y x within_2)))
  | inr (inr more) ↦
      absurd (differ j i y more within (ap key is_2 ∙ sym same ∙ ap key (sym is ∙ get_or_default xs i x y within)))
]

-- the new path of a move, or the path of a page that changes after the moves: no staging name is there
pub record IsDestination (entries : List Entry) (moves : List Move) (changed : List (List Step)) (to : List ℕ) : Type 0 where
  pub place : List (List ℕ)
  pub some : place ≢ []
  pub named : names_of to ≡ place
  pub spelled : to ≡ join_with_byte slash place
  pub plain : components to ≡ map name place
  pub ends : HasNoName entries place
  pub why : ((k : ℕ) × (k < length moves) × (place_of (move_at moves k).new ≡ Some place))
      ⊎ ((c : ℕ) × (c < length changed) × (target : List Step) × IsTreePath moves (path_at changed c) target
      × (place_of target ≡ Some place))

module _ {entries : List Entry} {pages changed : List (List Step)} {moves : List Move} {rule : NameRule} {actions : ActionTexts}
    (run : IsKnownRun entries pages changed moves rule actions)
  where
    -- ---- the renames from staging names

    -- from a name something comes once
    come_once : AllPairs (λ one other. one.0 ≢ other.0) actions.placed
    come_once i j d less within same =
        let within_2 : i < length actions.placed = omega (arith, less, within) in
        let (step, is) = element actions.placed i within_2 in
        let (other, is_2) = element actions.placed j within in
        carrying.name_other run i j step other (λ equal. absurd (omega (arith, equal, less))) within_2 within is is_2
        (ap (λ (step : List ℕ × List ℕ). step.0) (sym is ∙ get_or_default actions.placed i step d within_2) ∙ same
        ∙ ap (λ (step : List ℕ × List ℕ). step.0) (get_or_default actions.placed j d other within ∙ is_2))

    -- what is removed doesn't come
    pub come_kept : (staging to : List ℕ) → Contains actions.placed (staging, to) → ¬ Contains actions.removed staging
    come_kept staging to (k, within, is) (r, within_2, is_2) =
        let count : length (placed_names actions) ≡ length actions.placed =
        length-map actions.placed (λ (step : List ℕ × List ℕ). step.0) in
        let long = length-append (placed_names actions) actions.removed in
        (carrying.free_come run).different k (length (placed_names actions) + r) staging (omega (arith, within, count))
        (omega (arith, within_2, long))
        (carrying.come_at run k (staging, to) staging within is ∙ sym is_2
        ∙ sym (get_or-append-add (placed_names actions) actions.removed r staging))

    -- a thing leaves a path to one name
    pub left_one : (from one other : List ℕ) → Contains actions.staged (from, one) → Contains actions.staged (from, other)
        → one ≡ other
    left_one from one other has has_2 =
        ap (λ (step : List ℕ × List ℕ). step.1)
        (one_by_key (λ (step : List ℕ × List ℕ). step.0) actions.staged run.once (from, one) (from, other) has has_2 refl)

    -- what is removed where it leaves from doesn't come
    not_removed : (cs : List Step) → RemovesAt actions cs → (from staging to : List ℕ) → IsNormalTextOf cs from
        → Contains actions.staged (from, staging) → Contains actions.placed (staging, to) → ⊥
    not_removed cs gone from staging to normal left comes =
        let here : from ≡ gone.old = gone.old_of.only from normal.normal_text normal.same in
        let same : gone.removes.staging ≡ staging =
        left_one from gone.removes.staging staging
        (subst (λ old. Contains actions.staged (old, gone.removes.staging)) (sym here) gone.removes.leaves) left in
        come_kept staging to comes (subst (Contains actions.removed) same gone.removes.removed)

    -- a thing comes to one path
    carries_one : (from staging to other : List ℕ) → Contains actions.staged (from, staging)
        → Contains actions.placed (staging, to) → Carries actions from other → other ≡ to
    carries_one from staging to other left comes carries =
        let same : carries.staging ≡ staging = left_one from carries.staging staging carries.leaves left in
        ap (λ (step : List ℕ × List ℕ). step.1)
        (one_by_key (λ (step : List ℕ × List ℕ). step.0) actions.placed come_once (carries.staging, other) (staging, to)
        carries.comes comes same)

    -- ---- new files

    -- the file of a new text is carried to where the moves take the page
    pub file_carries : (new : List ℕ × List ℕ × List ℕ) → Contains actions.texts new
        → (c : ℕ) × (c < length changed) × IsNormalTextOf (path_at changed c) new.0 × (to : List ℕ) × Carries actions new.1 to
        × AtTreePath moves (path_at changed c) (λ now. IsNormalTextOf now to)
    file_carries new (t, within, is) =
        let (c, inside, old_of) = run.own.of_pages t new within in
        let old_of_2 : IsNormalTextOf (path_at changed c) new.0 =
        subst (λ (new : List ℕ × List ℕ × List ℕ). IsNormalTextOf (path_at changed c) new.0) is old_of in
        let one = run.replaced c [] inside in
        let same : (one.old, one.file, one.text) ≡ new =
        one_by_key (λ (new : List ℕ × List ℕ × List ℕ). new.0) actions.texts run.one_text (one.old, one.file, one.text) new
        one.written (t, within, is) (old_of_2.only one.old one.old_of.normal_text one.old_of.same) in (
          c,
          inside,
          old_of_2,
          one.to,
          subst (λ (new : List ℕ × List ℕ × List ℕ). Carries actions new.1 one.to) same one.carries,
          one.goes,
        )

    -- ---- where the renames lead

    -- one of the pages that change is at the place, or none of them
    pub changed_or : (place : List (List ℕ))
        → IsNoneAt changed (map name place) ⊎ ((k : ℕ) × (k < length changed) × (place_of (path_at changed k) ≡ Some place))
    changed_or place = one_at_or changed (λ k d within. let file = run.files k d within in (file.place, file.leads)) place

    -- a move carries what is at its old path, or that is one of these pages
    pub move_or : (m : ℕ) → m < length moves
        → CarriesMove actions (move_at moves m)
        ⊎ ((c : ℕ) × (c < length changed) × IsSame (path_at changed c) (move_at moves m).old)
    move_or m inside =
        let (b, place, leads, at) = carrying.old_place run m inside in
        elim (changed_or place) [
          | inl none ↦
              inl ((run.moved m inside).carries (λ c within same. none c within (IsSame-trans (IsSame-sym (IsSame-place leads)) same)))
          | inr (c, within, leads_2) ↦ inr (c, within, IsSame-one_place place leads_2 leads)
        ]

    -- where a rename from a staging name leads to
    pub destination : (from staging to : List ℕ) → LeavesFrom moves changed actions.texts from
        → Contains actions.staged (from, staging) → Contains actions.placed (staging, to)
        → IsDestination entries moves changed to
    destination from staging to (of_move m inside normal) left comes = by (move_or m inside)
      where
        by : CarriesMove actions (move_at moves m)
            ⊎ ((c : ℕ) × (c < length changed) × IsSame (path_at changed c) (move_at moves m).old)
            → IsDestination entries moves changed to
        by (inl carries) =
            let (top, leads_2, some, fine) = arrivals.new_place run m inside in
            let here : from ≡ carries.old = carries.old_of.only from normal.normal_text normal.same in
            let to_is : carries.new ≡ to =
            carries_one from staging to carries.new left comes
            (subst (λ old. Carries actions old carries.new) (sym here) carries.carries) in
            subst (IsDestination entries moves changed) to_is (record {
              place = top;
              some = some;
              named = names_of-normal (move_at moves m).new carries.new top carries.new_of leads_2;
              spelled = spelled-place (move_at moves m).new carries.new top carries.new_of leads_2;
              plain = components-place carries.new_of leads_2;
              ends = subst (HasNoName entries) (append-nil top) (arrivals.HasNoName-reserved run top [] some fine);
              why = inl (m, inside, leads_2);
            })
        by (inr (c, within, same)) =
            let gone = (run.moved m inside).removes (λ none. none c within (IsSame-sym same)) in
            absurd (not_removed (move_at moves m).old gone from staging to normal left comes)
    destination from staging to (of_page c inside normal) left comes =
        absurd (not_removed (path_at changed c) (run.removed c [] inside) from staging to normal left comes)
    destination from staging to (of_text old text has) left comes =
        let (c, inside, old_of, other, carries, goes) = file_carries (old, from, text) has in
        let (target, is, normal) = goes in
        let (place, leads, some, ends) = arrivals.target_place run (path_at changed c) target (run.files c [] inside) is in
        subst (IsDestination entries moves changed) (carries_one from staging to other left comes carries) (record {
          place = place;
          some = some;
          named = names_of-normal target other place normal leads;
          spelled = spelled-place target other place normal leads;
          plain = components-place normal leads;
          ends = ends;
          why = inr (c, inside, target, is, leads);
        })
