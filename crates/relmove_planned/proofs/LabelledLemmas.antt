-- The labels of a plan fit together, by what `make_plan` says of its actions; and what is removed is a page that changes.
use Rattle.std.proofs.Common.{All, AllPairs, Contains, IfSome, String, ◌≡◌, ◌≢◌, ◌⊎◌, ◌<◌, ◌+◌, ℕ, zero, suc, Bool, true, false, true≢false, List, [], ◌∷◌, ◌++◌, Option, Some, None, IsSome, codes, get_or, is_some, length, map, string_bytes, take, inl, inr, refl, sym, ap, subst, ◌∙◌, append-nil, append_assoc, arith}
use Rattle.std.specs.Char.{is_ascii_digit}
use Rattle.std.specs.Int.Digits.{digits_of}
use Rattle.std.specs.List.{AllByRecursion, join_with_byte, list_all, list_any, slice_get}
use Rattle.std.specs.declared.alloc.Global.{Global}
use Rattle.std.proofs.lemmas.Bool.{cases_lt, false≢true}
use Rattle.std.proofs.lemmas.Int.Digits.{all_below_base_digits_of, digits_of_step}
use Rattle.std.proofs.lemmas.List.{append_cancel_left, map-append}
use Rattle.std.proofs.lemmas.List.Elements.{All-contains_itself, All-map}
use Rattle.std.proofs.lemmas.List.Sorted.{All-permutation, IsPermutation-sym}
use Rattle.std.proofs.lemmas.Option.{same_Some}
use Rattle.std.proofs.lemmas.Slice.Eq.{starts_is}
use Rattle.std.proofs.lemmas.Bool.Decides.{Decides-eqb}
use Rattle.relative_path.proofs.ForCallers.{IsSame-sym, IsSame-trans, components-place, last_name-name}
use Rattle.relative_path.specs.Naming.{file_name_of}
use Rattle.relative_path.specs.Editing.{kept_len}
use Rattle.relative_path.specs.Naming as naming
use Rattle.relative_path.specs.Normalizing.{IsNormalTextOf}
use Rattle.relative_path.specs.Steps.{Step, cur, up, name, components, slash, step_text}
use Rattle.relative_path.specs.Walk.{IsSame, place_of, walk}
use Rattle.relative_path_links.specs.declared.site.MovedSitePage.{MovedSitePage}
use Rattle.relative_path_links.specs.declared.site.SitePage.{SitePage}
use Rattle.relative_path_moves.specs.Moves.{Move, move_at}
use Rattle.relative_path_places.proofs.ForCallers.{IsNormalTextOf-same}
use Rattle.relative_path_places.specs.PlaceIndex.{path_at}
use Rattle.relative_path_places.specs.Places.{directory}
use Rattle.relmove_checks.specs.Moves.{EachMove, HasNoReservedName, is_reserved_step}
use Rattle.relmove_checks.specs.Plan.{AreAllowed}
use Rattle.relmove_checks.specs.Trees.{entry_paths}
use Rattle.relmove_checks.specs.declared.entry.Entry.{Entry}
use Rattle.relmove_checks.specs.declared.name_rule.NameRule.{NameRule}
use Rattle.relmove_journal.specs.Shape.{begins_with, is_not_empty, is_number}
use Rattle.relmove_plan.proofs.LeavingLemmas.{All-changed_pages, All-changed_paths, AreDistinct-changed_paths}
use Rattle.relmove_plan.proofs.PlacesLemmas.{IsBelow-spelled, names_of-normal}
use Rattle.relmove_plan.specs.ActionPaths.{AreSpelled, DoNoMore, SpellsNames}
use Rattle.relmove_plan.specs.KnownTrees.{tree_actions}
use Rattle.relmove_plan.specs.MadePaths.{IsMadePath}
use Rattle.relmove_plan.specs.WholeTrees.{IsWhole, LeadsToFile}
use Rattle.relmove_steps.proofs.ForCallers.{AreFreeNames-IsPermutation, components-free}
use Rattle.relmove_steps.specs.Actions.{ActionTexts, DoesMove, IsBelow, LeavesFrom, ReplacesChanged, ReplacesPage, ReplacesPages, WritesPages, of_move, of_page, of_text, placed_names, staged_names}
use Rattle.relmove_steps.specs.NewFiles.{HaveOwnFiles, IsNextTo, IsOneOf}
use Rattle.relmove_steps.specs.Numbers.{numeral}
use Rattle.relmove_steps.specs.Pages.{changed_paths, page_paths}
use Rattle.relmove_steps.specs.StagingNames.{AreFreeNames, numbered_name}
use Rattle.relmove_trees.specs.FileTrees.{IsUnder, Place, Tree, after_rename, names_of, with_node, File}
use Rattle.relmove_trees.specs.TreeActions.{Action, Clear, LeadTo, Make, Remove, Rename, Write}
use Rattle.relmove_trees.proofs.FileTreesLemmas.{after_rename-from}
use Rattle.relmove_work.proofs.SeenRunsLemmas.{never-there}
use Rattle.relmove_stages.proofs.ChainLemmas.{map_at}
use Rattle.relmove_work.specs.StagingPaths.{begins_as_label, is_text_file, last_name, last_of, staging_path}
use Rattle.relmove_work.specs.Works.{IsMadeAt, IsThingOf, LacksOldText, PlanTexts}
use Rattle.relmove_work.proofs.CleaningLemmas.{zip-right}
use Rattle.relmove_work.proofs.FitsLemmas.{append-at}
use Rattle.relmove_work.proofs.PathsLemmas.{AreForeign, label-not_foreign, label-plain, label_of, last-label, last_name-joined, names_of-label, or-false, staging_path-label}
use Rattle.relmove_work.proofs.StagedLemmas.{equal_or}
use Rattle.relmove_planned.specs.Plans.{HaveTexts}
use Rattle.relmove_work.proofs.WorksLemmas.{IsLabel, IsLabelled, IsTextFile, at-contains, at-map, contains-at}

-- ---- lists

pub at-get : {X : Type 0} (xs : List X) (i : ℕ) (x : X) → slice_get xs i ≡ Some x → (i < length xs) × ((d : X) → get_or xs i d ≡ x)
at-get [] i x at = absurd (cc at)
at-get (y ∷ xs) zero x at = (omega arith, λ d. let same : y ≡ x = cc at in same)
at-get (y ∷ xs) (suc i) x at = let (within, is) = at-get xs i x at in (omega (arith, within), is)

pub all-at : {X : Type 0} (P : X → Type 0) (xs : List X) → All P xs → (i : ℕ) (x : X) → slice_get xs i ≡ Some x → P x
all-at P xs each i x at = let (within, is) = at-get xs i x at in subst P (is x) (each i x within)

pairs-at : {X : Type 0} (R : X → X → Type 0) (xs : List X) → AllPairs R xs → (i j : ℕ) (x y : X) → i < j
    → slice_get xs i ≡ Some x → slice_get xs j ≡ Some y → R x y
pairs-at R xs each i j x y less at at_2 =
    let (within, is) = at-get xs i x at in
    let (within_2, is_2) = at-get xs j y at_2 in
    subst (R x) (is_2 x) (subst (λ z. R z (get_or xs j x)) (is x) (each i j x less within_2))

pub All-from_at : {X : Type 0} (P : X → Type 0) (xs : List X) → ((i : ℕ) (x : X) → slice_get xs i ≡ Some x → P x) → All P xs
All-from_at {X = X} P xs each k d within = by xs k within each
  where
    by : (xs : List X) (k : ℕ) → k < length xs → ((i : ℕ) (x : X) → slice_get xs i ≡ Some x → P x) → P (get_or xs k d)
    by [] k within each = absurd (let w : k < 0 = within in omega (arith, w))
    by (x ∷ xs) zero within each = each 0 x refl
    by (x ∷ xs) (suc k) within each = by xs k (omega (arith, within)) (λ i y at. each (suc i) y at)

-- pairs that differ, in either order
differ-at : {X Y : Type 0} (f : X → Y) (xs : List X) → AllPairs (λ one other. f one ≢ f other) xs → (i j : ℕ) (x y : X) → i ≢ j
    → slice_get xs i ≡ Some x → slice_get xs j ≡ Some y → f x ≢ f y
differ-at f xs each i j x y differ at at_2 same = elim (cases_lt i j) [
  | inl less ↦ pairs-at (λ one other. f one ≢ f other) xs each i j x y less at at_2 same
  | inr past ↦ elim (cases_lt j i) [
    | inl less ↦ pairs-at (λ one other. f one ≢ f other) xs each j i y x less at_2 at (sym same)
    | inr past_2 ↦ differ (omega (arith, past, past_2))
  ]
]

append-left : {X : Type 0} (xs ys : List X) (i : ℕ) (x : X) → slice_get xs i ≡ Some x → slice_get (xs ++ ys) i ≡ Some x
append-left [] ys i x at = absurd (cc at)
append-left (y ∷ xs) ys zero x at = at
append-left (y ∷ xs) ys (suc i) x at = append-left xs ys i x at

append-right : {X : Type 0} (xs ys : List X) (i : ℕ) (x : X) → slice_get ys i ≡ Some x
    → slice_get (xs ++ ys) (length xs + i) ≡ Some x
append-right [] ys i x at = ap (slice_get ys) (let e : 0 + i ≡ i = omega arith in e) ∙ at
append-right (y ∷ xs) ys i x at =
    ap (slice_get (y ∷ (xs ++ ys))) (let e : length (y ∷ xs) + i ≡ suc (length xs + i) = omega arith in e)
    ∙ append-right xs ys i x at

some-of : {X : Type 0} (o : Option X) → IsSome o → (x : X) × (o ≡ Some x)
some-of None some = absurd (cc some)
some-of (Some x) some = (x, refl)

-- ---- numbers

digit : (d : ℕ) → d < 10 → is_ascii_digit (48 + d) ≡ true
digit zero less = refl
digit (suc zero) less = refl
digit (suc (suc zero)) less = refl
digit (suc (suc (suc zero))) less = refl
digit (suc (suc (suc (suc zero)))) less = refl
digit (suc (suc (suc (suc (suc zero))))) less = refl
digit (suc (suc (suc (suc (suc (suc zero)))))) less = refl
digit (suc (suc (suc (suc (suc (suc (suc zero))))))) less = refl
digit (suc (suc (suc (suc (suc (suc (suc (suc zero)))))))) less = refl
digit (suc (suc (suc (suc (suc (suc (suc (suc (suc zero))))))))) less = refl
digit (suc (suc (suc (suc (suc (suc (suc (suc (suc (suc d)))))))))) less = absurd (omega (arith, less))

digits : (ds : List ℕ) → AllByRecursion (λ d. d < 10) ds → list_all is_ascii_digit (map (λ digit. 48 + digit) ds) ≡ true
digits [] below = refl
digits (d ∷ ds) below = rw ((digit d below.0)) (digits ds below.1)

pub numeral-number : (n : ℕ) → is_number (numeral n) ≡ true
numeral-number zero = refl
numeral-number (suc n) =
    let step = digits_of_step 10 (suc n) (omega arith) (omega arith) in
    rw (some (digits_of 10 (suc n)) _ _ step) (digits (digits_of 10 (suc n)) (all_below_base_digits_of 10 (suc n) (omega arith)))
  where
    some : (ds front : List ℕ) (last : ℕ) → ds ≡ front ++ last ∷ [] → is_not_empty (map (λ digit. 48 + digit) ds) ≡ true
    some [] [] last is = absurd (cc is)
    some [] (d ∷ front) last is = absurd (cc is)
    some (d ∷ ds) front last is = refl

-- ---- names that aren't a run's own

foreign-push : (base : Place) (n : List ℕ) → AreForeign base → begins_with (codes ".relmove") n ≡ false → AreForeign (base ++ n ∷ [])
foreign-push [] n fine foreign = (foreign, tt)
foreign-push (m ∷ base) n fine foreign = (fine.0, foreign-push base n fine.1 foreign)

foreign-take : (k : ℕ) (place : Place) → AreForeign place → AreForeign (take k place)
foreign-take zero place fine = tt
foreign-take (suc k) [] fine = tt
foreign-take (suc k) (n ∷ place) fine = (fine.0, foreign-take k place fine.1)

pub walk-foreign : (cs : List Step) (base place : Place) → list_any is_reserved_step cs ≡ false → AreForeign base
    → walk base cs ≡ Some place → AreForeign place
walk-foreign [] base place none fine leads = let same : base ≡ place = cc leads in subst AreForeign same fine
walk-foreign (cur ∷ cs) base place none fine leads = walk-foreign cs base place none fine leads
walk-foreign (up ∷ cs) [] place none fine leads = absurd (let e = leads in cc)
walk-foreign (up ∷ cs) (n ∷ base) place none fine leads =
    walk-foreign cs (take (length base) (n ∷ base)) place none (foreign-take (length base) (n ∷ base) fine) leads
walk-foreign (name n ∷ cs) base place none fine leads =
    let parts = or-false (is_reserved_step (name n)) (list_any is_reserved_step cs) none in
    walk-foreign cs (base ++ n ∷ []) place parts.1 (foreign-push base n fine parts.0) leads

-- the names of a normal text
foreign-normal : (cs : List Step) (text : List ℕ) (place : Place) → HasNoReservedName cs → place_of cs ≡ Some place
    → IsNormalTextOf cs text → AreForeign (names_of text)
foreign-normal cs text place none leads is =
    subst AreForeign (sym (names_of-normal cs text place is leads)) (walk-foreign cs [] place none tt leads)

-- a path of such names isn't of a new text
label-own : (n : List ℕ) → begins_as_label n ≡ true → begins_with (codes ".relmove") n ≡ true
label-own n is =
    ap (begins_with (codes ".relmove")) ((starts_is Decides-eqb n (codes ".relmove-") (begins_as_label n) refl).0 is)

last-foreign : (ns : Place) → AreForeign ns → begins_as_label (last_of ns) ≡ true → ⊥
last-foreign [] fine is = true≢false (sym is)
last-foreign (n ∷ []) fine is = true≢false (sym (label-own n is) ∙ fine.0)
last-foreign (n ∷ m ∷ ns) fine is = last-foreign (m ∷ ns) fine.1 is

not-text : (path : List ℕ) → AreForeign (names_of path) → is_text_file path ≡ true → ⊥
not-text path fine is = last-foreign (names_of path) fine (ap begins_as_label (last-label path is) ∙ is)

-- ---- renames that can be done

-- nothing leaves twice, if nothing comes to where it was
never-twice : {X : Type 0} (f t : X → Place) (xs : List X) (more : List Action) (Q : Tree → Type 0) (tree : Tree) (i j : ℕ)
    (x y : X) → i < j → slice_get xs i ≡ Some x → slice_get xs j ≡ Some y → f x ≡ f y
    → LeadTo (map (λ x. Rename (f x) (t x)) xs ++ more) Q tree
    → ((k : ℕ) (z : X) → slice_get xs k ≡ Some z → ¬ IsUnder (f y) (t z)) → ⊥
never-twice f t [] more Q tree i j x y less at at_2 same leads clear = cc at
never-twice f t (z ∷ xs) more Q tree zero zero x y less at at_2 same leads clear = omega (arith, less)
never-twice f t (z ∷ xs) more Q tree zero (suc j) x y less at at_2 same leads clear =
    let first : z ≡ x = cc at in
    never-there f t xs more Q (after_rename (f z, t z) tree) j y at_2 (leads.1 (after_rename (f z, t z) tree) refl)
    (λ k w at_3. clear (suc k) w at_3)
    (after_rename-from (f z) (t z) tree (f y) (clear 0 z refl)
    ([], sym same ∙ ap f (sym first) ∙ sym (append-nil (f z))))
never-twice f t (z ∷ xs) more Q tree (suc i) zero x y less at at_2 same leads clear = omega (arith, less)
never-twice f t (z ∷ xs) more Q tree (suc i) (suc j) x y less at at_2 same leads clear =
    never-twice f t xs more Q (after_rename (f z, t z) tree) i j x y (omega (arith, less)) at at_2 same
    (leads.1 (after_rename (f z, t z) tree) refl) (λ k w at_3. clear (suc k) w at_3)

-- after new texts are written
after-writes : (news : List (List ℕ × List ℕ × List ℕ)) (more : List Action) (Q : Tree → Type 0) (tree : Tree)
    → LeadTo (map (λ new. Write (names_of new.1) new.2) news ++ more) Q tree → (next : Tree) × LeadTo more Q next
after-writes [] more Q tree leads = (tree, leads)
after-writes (new ∷ news) more Q tree leads =
    after-writes news more Q (with_node (names_of new.1) (Some (File new.2)) tree)
    (leads.1 (with_node (names_of new.1) (Some (File new.2)) tree) refl)

-- the names of a new text's file
pub next-split : (page file : List ℕ) (next : IsNextTo page file)
    → names_of file ≡ map step_text (directory (components page)) ++ numbered_name next.number ∷ []
next-split page file next =
    ap (map step_text) next.next ∙ map-append step_text (directory (components page)) (name (numbered_name next.number) ∷ [])

-- the new text of the page where the components lead is written to a file that gets a label, and comes from there
record IsReplacedBy (actions : ActionTexts) (cs : List Step) : Type 0 where
  old : List ℕ
  old_of : IsNormalTextOf cs old
  file : List ℕ
  text : List ℕ
  written : Contains actions.texts (old, file, text)
  staging : List ℕ
  leaves : Contains actions.staged (file, staging)
  to : List ℕ
  comes : Contains actions.placed (staging, to)

module _ (entries : List Entry) (pages : List SitePage) (news : List MovedSitePage) (moves : List Move) (rule : NameRule)
    (actions : ActionTexts) (made emptied : List (List ℕ)) (whole : IsWhole entries (page_paths pages))
    (accepted : AreAllowed entries moves rule) (free : AreFreeNames (entry_paths entries) (staged_names actions))
    (own : HaveOwnFiles (entry_paths entries) (changed_paths pages news) actions)
    (writes : WritesPages (changed_paths pages news) actions) (replaced : ReplacesPages pages news actions)
    (only : DoNoMore moves (changed_paths pages news) actions emptied) (spelled : AreSpelled actions made emptied)
    (made_paths : All (IsMadePath moves actions) made)
    (plain : All (λ page. HasNoReservedName (components page.path.now)) pages)
    (Q : Tree → Type 0) (tree : Tree) (leads : LeadTo (tree_actions actions made emptied) Q tree)
  where
    abbrev pub changed : List (List Step)
    changed = changed_paths pages news

    -- what comes after new texts are written, and after things have their labels
    abbrev pub rest : List Action
    rest =
        map (λ path. Make (names_of path)) made
        ++ (map (λ rename. Rename (names_of rename.0) (names_of rename.1)) actions.placed
        ++ (map (λ path. Remove (names_of path)) actions.removed ++ map (λ path. Clear (names_of path)) emptied))

    abbrev pub staged_on : List Action
    staged_on = map (λ rename. Rename (names_of rename.0) (names_of rename.1)) actions.staged ++ rest

    pub order : tree_actions actions made emptied ≡ map (λ new. Write (names_of new.1) new.2) actions.texts ++ staged_on
    order =
        append_assoc (((w ++ s) ++ m) ++ p) r c ∙ append_assoc ((w ++ s) ++ m) p (r ++ c) ∙ append_assoc (w ++ s) m (p ++ (r ++ c))
        ∙ append_assoc w s (m ++ (p ++ (r ++ c)))
      where
        w : List Action
        w = map (λ new. Write (names_of new.1) new.2) actions.texts

        s : List Action
        s = map (λ rename. Rename (names_of rename.0) (names_of rename.1)) actions.staged

        m : List Action
        m = map (λ path. Make (names_of path)) made

        p : List Action
        p = map (λ rename. Rename (names_of rename.0) (names_of rename.1)) actions.placed

        r : List Action
        r = map (λ path. Remove (names_of path)) actions.removed

        c : List Action
        c = map (λ path. Clear (names_of path)) emptied

    -- the new text of a page that changes is written, and its file gets a label
    abbrev IsReplacedThere : List Step → Type 0
    IsReplacedThere cs = IsReplacedBy actions cs

    are_replaced : All IsReplacedThere changed
    are_replaced = All-changed_pages IsReplacedThere (ReplacesChanged actions) pages news
        (λ page new changes is. by page new new.text changes is) replaced
      where
        by : (page : SitePage) (new : MovedSitePage) (text : Option (String Global)) → is_some text ≡ true
            → IfSome text (λ text. ReplacesPage actions page new (string_bytes text)) → IsReplacedBy actions (components page.path.now)
        by page new None changes is = absurd (false≢true changes)
        by page new (Some text) changes is = record {
          old = is.old;
          old_of = is.old_of;
          file = is.file;
          text = string_bytes text;
          written = is.written;
          staging = is.carries.staging;
          leaves = is.carries.leaves;
          to = new.path;
          comes = is.carries.comes;
        }

    -- the plan as texts
    abbrev pub plan : PlanTexts
    plan = record {
      texts = actions.texts;
      staged = actions.staged;
      made = made;
      placed = actions.placed;
      removed = actions.removed;
      emptied = emptied;
    }

    -- ---- labels

    pub staged_has : (i : ℕ) (s : List ℕ × List ℕ) → slice_get actions.staged i ≡ Some s → slice_get (staged_names actions) i ≡ Some s.1
    staged_has i s at = at-map (λ (step : List ℕ × List ℕ). step.1) actions.staged i s at

    label : (i : ℕ) (s : List ℕ × List ℕ) → slice_get actions.staged i ≡ Some s → IsLabel s.1
    label i s at =
        let (n, is) = all-at (λ name. (n : ℕ) × (name ≡ numbered_name n)) (staged_names actions) free.numbered i s.1 (staged_has i s at) in
        record { number = numeral n; is = numeral-number n; label_is = is }

    different : (i j : ℕ) (s t : List ℕ × List ℕ) → slice_get actions.staged i ≡ Some s → slice_get actions.staged j ≡ Some t → i ≢ j
        → s.1 ≢ t.1
    different i j s t at at_2 differ =
        differ-at (λ (name : List ℕ). name) (staged_names actions) free.different i j s.1 t.1 differ (staged_has i s at)
        (staged_has j t at_2)

    -- ---- pages

    page_plain : All (λ cs. HasNoReservedName cs) changed
    page_plain =
        All-changed_paths (λ cs. HasNoReservedName cs) pages news
        (All-map (λ cs. HasNoReservedName cs) (λ (page : SitePage). components page.path.now) pages plain)

    page_foreign : (k : ℕ) (text : List ℕ) → k < length changed → IsNormalTextOf (path_at changed k) text → AreForeign (names_of text)
    page_foreign k text within is =
        let file = All-changed_paths (LeadsToFile entries) pages news whole.files k [] within in
        foreign-normal (path_at changed k) text file.place (page_plain k [] within) file.leads is

    page_place : (k : ℕ) (text : List ℕ) → k < length changed → IsNormalTextOf (path_at changed k) text
        → (place : Place) × (components text ≡ map name place) × AreForeign place
    page_place k text within is =
        let file = All-changed_paths (LeadsToFile entries) pages news whole.files k [] within in (
          file.place,
          components-place is file.leads,
          walk-foreign (path_at changed k) [] file.place (page_plain k [] within) tt file.leads,
        )

    -- ---- the files of new texts

    next-last : (page file : List ℕ) (next : IsNextTo page file) → last_name file ≡ numbered_name next.number
    next-last page file next =
        ap last_name next.spelled ∙ ap (λ ns. last_name (join_with_byte slash ns)) (next-split page file next)
        ∙ last_name-joined (map step_text (directory (components page))) (numbered_name next.number)
        (label-plain (numeral next.number) (numeral-number next.number))

    text_file : (a : ℕ) (new : List ℕ × List ℕ × List ℕ) → slice_get actions.texts a ≡ Some new → IsTextFile new.1
    text_file a new at =
        let next = all-at (λ new. IsNextTo new.0 new.1) actions.texts own.next_to a new at in
        let (k, within, is) = all-at (λ new. IsOneOf changed new.0) actions.texts own.of_pages a new at in
        let (place, comps, fine) = page_place k new.0 within is in
        record {
          number = numeral next.number;
          is = numeral-number next.number;
          top = map step_text (directory (components new.0));
          split = next-split new.0 new.1 next;
          foreign = subst (λ cs. AreForeign (map step_text (directory cs))) (sym comps) (front (kept_len (map name place)) place fine);
          last = next-last new.0 new.1 next;
        }
      where
        front : (k : ℕ) (place : Place) → AreForeign place → AreForeign (map step_text (take k (map name place)))
        front zero place fine = tt
        front (suc k) [] fine = tt
        front (suc k) (n ∷ place) fine = (fine.0, front k place fine.1)

    file_name : (a : ℕ) (new : List ℕ × List ℕ × List ℕ) → slice_get actions.texts a ≡ Some new
        → file_name_of new.1 ≡ Some (last_name new.1)
    file_name a new at =
        let next = all-at (λ new. IsNextTo new.0 new.1) actions.texts own.next_to a new at in
        ap naming.last_name next.next ∙ last_name-name (directory (components new.0)) (numbered_name next.number)
        ∙ ap Some (sym (next-last new.0 new.1 next))

    -- a new text's rename is of a new text
    pub of_text_file : (i : ℕ) (s : List ℕ × List ℕ) → slice_get actions.staged i ≡ Some s → is_text_file s.0 ≡ true
        → (a : ℕ) × (page text : List ℕ) × (slice_get actions.texts a ≡ Some (page, s.0, text))
    of_text_file i s at text = by (all-at (λ step. LeavesFrom moves changed actions.texts step.0) actions.staged only.leave i s at)
      where
        by : LeavesFrom moves changed actions.texts s.0
            → (a : ℕ) × (page text : List ℕ) × (slice_get actions.texts a ≡ Some (page, s.0, text))
        by (of_text page bytes has) = let (a, at_2) = contains-at actions.texts (page, s.0, bytes) has in (a, page, bytes, at_2)
        by (of_page k within is) = absurd (not-text s.0 (page_foreign k s.0 within is) text)
        by (of_move k within is) =
            let fine = accepted.apart.come.leave.paths k within in
            let (place, leads_to) = some-of (place_of (move_at moves k).old) fine.placed.old in
            absurd (not-text s.0 (foreign-normal (move_at moves k).old s.0 place fine.not_reserved_old leads_to is) text)

    -- two new texts with one name are one
    one_file : (a b : ℕ) (new other : List ℕ × List ℕ × List ℕ) → slice_get actions.texts a ≡ Some new
        → slice_get actions.texts b ≡ Some other → last_name new.1 ≡ last_name other.1 → new ≡ other
    one_file a b new other at at_2 same = elim (equal_or a b) [
      | inl one ↦ let e : Some new ≡ Some other = sym at ∙ ap (slice_get actions.texts) one ∙ at_2 in cc e
      | inr differ ↦
          absurd (differ-at (λ (new : List ℕ × List ℕ × List ℕ). file_name_of new.1) actions.texts own.different a b new other differ at
          at_2 (file_name a new at ∙ ap Some same ∙ sym (file_name b other at_2)))
    ]

    files : (i : ℕ) (s : List ℕ × List ℕ) → slice_get actions.staged i ≡ Some s → is_text_file s.0 ≡ true → IsTextFile s.0
    files i s at text = let (a, page, bytes, at_2) = of_text_file i s at text in text_file a (page, s.0, bytes) at_2

    files_labels : (i j : ℕ) (s t : List ℕ × List ℕ) → slice_get actions.staged i ≡ Some s → slice_get actions.staged j ≡ Some t
        → is_text_file s.0 ≡ true → last_name s.0 ≢ t.1
    files_labels i j s t at at_2 text same =
        let (a, page, bytes, at_3) = of_text_file i s at text in
        let others = all-at (λ new. All (λ staging. file_name_of new.1 ≢ file_name_of staging)
        (staged_names actions)) actions.texts own.no_name a
        (page, s.0, bytes) at_3 in
        let single = all-at (λ staging. components staging
        ≡ name staging ∷ []) (staged_names actions) (components-free (entry_paths entries) (staged_names actions) free) j t.1
        (staged_has j t at_2) in
        all-at (λ staging. file_name_of s.0 ≢ file_name_of staging) (staged_names actions) others j t.1 (staged_has j t at_2)
        (file_name a (page, s.0, bytes) at_3 ∙ ap Some same
        ∙ sym (ap naming.last_name single ∙ last_name-name [] t.1))

    -- the file of a new text isn't at a label or below
    file_clear : (i k : ℕ) (s z : List ℕ × List ℕ) → slice_get actions.staged i ≡ Some s → slice_get actions.staged k ≡ Some z
        → is_text_file s.0 ≡ true → ¬ IsUnder (names_of s.0) (names_of z.1)
    file_clear i k s z at at_2 text (rest, under) = by file.top file.split file.foreign
      where
        file : IsTextFile s.0
        file = files i s at text

        it : IsLabel z.1
        it = label k z at_2

        place : names_of z.1 ≡ label_of it.number ∷ []
        place = ap names_of it.label_is ∙ names_of-label it.number it.is

        by : (top : Place) → names_of s.0 ≡ top ++ label_of file.number ∷ [] → AreForeign top → ⊥
        by [] split fine =
            let e : label_of file.number ∷ [] ≡ (label_of it.number ∷ []) ++ rest =
            sym split ∙ under ∙ ap (λ p. p ++ rest) place in
            let first : label_of file.number ≡ label_of it.number = cc e in
            files_labels i k s z at at_2 text (file.last ∙ first ∙ sym it.label_is)
        by (n ∷ top) split fine =
            let e : n ∷ (top ++ label_of file.number ∷ []) ≡ (label_of it.number ∷ []) ++ rest =
            sym split ∙ under ∙ ap (λ p. p ++ rest) place in
            let first : n ≡ label_of it.number = cc e in
            true≢false (sym (ap (begins_with (codes ".relmove")) first) ∙ fine.0)

    -- nothing leaves twice that isn't at a label or below
    twice : (i j : ℕ) (s t : List ℕ × List ℕ) → i < j → slice_get actions.staged i ≡ Some s
        → slice_get actions.staged j ≡ Some t → names_of s.0 ≡ names_of t.0
        → ((k : ℕ) (z : List ℕ × List ℕ) → slice_get actions.staged k ≡ Some z → ¬ IsUnder (names_of t.0) (names_of z.1))
        → ⊥
    twice i j s t less at at_2 same clear =
        let (next, later) = after-writes actions.texts staged_on Q tree (subst (λ
        (actions : List Action). LeadTo actions Q tree) order leads) in
        never-twice (λ (s : List ℕ × List ℕ). names_of s.0) (λ (s : List ℕ
        × List ℕ). names_of s.1) actions.staged rest Q next i j s t less
        at at_2 same later clear

    -- no new text gets two labels
    files_differ : (i j : ℕ) (s t : List ℕ × List ℕ) → slice_get actions.staged i ≡ Some s → slice_get actions.staged j ≡ Some t
        → i ≢ j → is_text_file s.0 ≡ true → is_text_file t.0 ≡ true → last_name s.0 ≢ last_name t.0
    files_differ i j s t at at_2 differ text text_2 same =
        let (a, page, bytes, at_3) = of_text_file i s at text in
        let (b, page_2, bytes_2, at_4) = of_text_file j t at_2 text_2 in
        let one : s.0 ≡ t.0 =
        ap (λ (new : List ℕ × List ℕ × List ℕ). new.1) (one_file a b (page, s.0, bytes) (page_2, t.0, bytes_2) at_3 at_4 same) in
        elim (cases_lt i j) [
          | inl less ↦ twice i j s t less at at_2 (ap names_of one) (λ k z at_5. file_clear j k t z at_2 at_5 text_2)
          | inr past ↦ elim (cases_lt j i) [
            | inl less ↦ twice j i t s less at_2 at (ap names_of (sym one)) (λ k z at_5. file_clear i k s z at at_5 text)
            | inr past_2 ↦ differ (omega (arith, past, past_2))
          ]
        ]

    -- ---- each new text gets a label

    -- a new text gets a label, and comes from there
    abbrev IsTextCarried : List ℕ × List ℕ × List ℕ → Type 0
    IsTextCarried new = (j : ℕ) × (label to : List ℕ) × (slice_get actions.staged j ≡ Some (new.1, label))
        × Contains actions.placed (label, to)

    carried : (i : ℕ) (new : List ℕ × List ℕ × List ℕ) → slice_get actions.texts i ≡ Some new → IsTextCarried new
    carried i new at =
        let (cs, at_2, is) = zip-right IsNormalTextOf changed (map (λ (new : List ℕ × List ℕ × List ℕ). new.0) actions.texts) writes i new.0
        (at-map (λ (new : List ℕ × List ℕ × List ℕ). new.0) actions.texts i new at) in
        let it = all-at IsReplacedThere changed are_replaced i cs at_2 in
        let (b, at_3) = contains-at actions.texts (it.old, it.file, it.text) it.written in
        let (j, at_4) = contains-at actions.staged (it.file, it.staging) it.leaves in
        let old : it.old ≡ new.0 = is.only it.old it.old_of.normal_text it.old_of.same in
        let one : (it.old, it.file, it.text) ≡ new = one_page b i (it.old, it.file, it.text) new at_3 at old in
        let file : it.file ≡ new.1 = ap (λ (new : List ℕ × List ℕ × List ℕ). new.1) one in (
          j,
          it.staging,
          it.to,
          subst (λ file. slice_get actions.staged j ≡ Some (file, it.staging)) file at_4,
          it.comes,
        )
      where
        one_page : (b i : ℕ) (one other : List ℕ × List ℕ × List ℕ) → slice_get actions.texts b ≡ Some one
            → slice_get actions.texts i ≡ Some other → one.0 ≡ other.0 → one ≡ other
        one_page b i one other at_3 at_4 same = elim (equal_or b i) [
          | inl e ↦ let f : Some one ≡ Some other = sym at_3 ∙ ap (slice_get actions.texts) e ∙ at_4 in cc f
          | inr differ ↦
              let (cs, at_5, is) = zip-right IsNormalTextOf changed (map (λ (new : List ℕ × List ℕ × List ℕ). new.0) actions.texts) writes b
              one.0 (at-map (λ (new : List ℕ × List ℕ × List ℕ). new.0) actions.texts b one at_3) in
              let (ds, at_6, is_2) = zip-right IsNormalTextOf changed (map (λ (new : List ℕ × List ℕ × List ℕ). new.0) actions.texts)
              writes i other.0 (at-map (λ (new : List ℕ × List ℕ × List ℕ). new.0) actions.texts i other at_4) in
              let meet : IsSame cs ds =
              IsSame-trans is.same (IsSame-sym (subst (λ text. IsSame ds (components text)) (sym same) is_2.same)) in
              absurd (elim (cases_lt b i) [
                | inl less ↦ apart b i cs ds less at_5 at_6 meet
                | inr past ↦ elim (cases_lt i b) [
                  | inl less ↦ apart i b ds cs less at_6 at_5 (IsSame-sym meet)
                  | inr past_2 ↦ differ (omega (arith, past, past_2))
                ]
              ])
        ]
          where
            apart : (x y : ℕ) (cs ds : List Step) → x < y → slice_get changed x ≡ Some cs → slice_get changed y ≡ Some ds → IsSame cs ds → ⊥
            apart x y cs ds less here here_2 meet =
                let (within, is) = at-get changed x cs here in
                let (within_2, is_2) = at-get changed y ds here_2 in
                (AreDistinct-changed_paths pages news whole.pages_distinct y within_2).first x less
                (subst (λ c. IsSame c (path_at changed x)) (sym (is_2 [])) (subst (IsSame ds) (sym (is [])) (IsSame-sym meet)))

    texts : (i : ℕ) (new : List ℕ × List ℕ × List ℕ) → slice_get actions.texts i ≡ Some new
        → (j : ℕ) × (label : List ℕ) × (slice_get actions.staged j ≡ Some (new.1, label)) × (is_text_file new.1 ≡ true)
    texts i new at =
        let (j, label, to, at_2, comes) = carried i new at in (j, label, at_2, ap begins_as_label (text_file i new at).last)

    -- ---- what comes from a label, and what is removed at one

    moved_free : AreFreeNames (entry_paths entries) (placed_names actions ++ actions.removed)
    moved_free = AreFreeNames-IsPermutation (entry_paths entries) (staged_names actions)
        (placed_names actions ++ actions.removed) only.kept free

    -- something leaves to the label
    abbrev IsLeftTo : List ℕ → Type 0
    IsLeftTo n = (j : ℕ) × (from : List ℕ) × (slice_get actions.staged j ≡ Some (from, n))

    all_left : All IsLeftTo (placed_names actions ++ actions.removed)
    all_left =
        All-permutation IsLeftTo (staged_names actions) (placed_names actions ++ actions.removed) only.kept
        (All-from_at IsLeftTo (staged_names actions) (λ i n at.
        let (s, at_2, is) = map_at (λ (step : List ℕ × List ℕ). step.1) actions.staged i n at in
        (i, s.0, subst (λ n. slice_get actions.staged i ≡ Some (s.0, n)) is at_2)))

    placed_has : (i : ℕ) (p : List ℕ × List ℕ) → slice_get actions.placed i ≡ Some p
        → slice_get (placed_names actions ++ actions.removed) i ≡ Some p.0
    placed_has i p at =
        append-left (placed_names actions) actions.removed i p.0 (at-map (λ (step : List ℕ × List ℕ). step.0) actions.placed i p at)

    removed_has : (i : ℕ) (n : List ℕ) → slice_get actions.removed i ≡ Some n
        → slice_get (placed_names actions ++ actions.removed) (length (placed_names actions) + i) ≡ Some n
    removed_has i n at = append-right (placed_names actions) actions.removed i n at

    -- the label is one from which something comes, or at which something is removed
    abbrev IsDealtWith : List ℕ → Type 0
    IsDealtWith n = ((j : ℕ) × (to : List ℕ) × (slice_get actions.placed j ≡ Some (n, to)))
        ⊎ ((j : ℕ) × (slice_get actions.removed j ≡ Some n))

    all_dealt : All IsDealtWith (staged_names actions)
    all_dealt =
        All-permutation IsDealtWith (placed_names actions ++ actions.removed) (staged_names actions)
        (IsPermutation-sym (staged_names actions) (placed_names actions ++ actions.removed) only.kept)
        (All-from_at IsDealtWith (placed_names actions ++ actions.removed) (λ i n at.
        by i n (append-at (placed_names actions) actions.removed i n at)))
      where
        by : (i : ℕ) (n : List ℕ) → (slice_get (placed_names actions) i ≡ Some n)
            ⊎ ((j : ℕ) × (i ≡ length (placed_names actions) + j) × (slice_get actions.removed j ≡ Some n)) → IsDealtWith n
        by i n (inl at) =
            let (s, at_2, is) = map_at (λ (step : List ℕ × List ℕ). step.0) actions.placed i n at in
            inl (i, s.1, subst (λ n. slice_get actions.placed i ≡ Some (n, s.1)) is at_2)
        by i n (inr (j, is, at)) = inr (j, at)

    -- ---- directories that are emptied

    deepest : (i j : ℕ) (one other : List ℕ) → i < j → slice_get emptied i ≡ Some one → slice_get emptied j ≡ Some other
        → ¬ IsUnder (names_of other) (names_of one)
    deepest i j one other less at at_2 (rest, is) = by rest is
      where
        spells : SpellsNames one
        spells = all-at SpellsNames emptied spelled.emptied i one at

        spells_2 : SpellsNames other
        spells_2 = all-at SpellsNames emptied spelled.emptied j other at_2

        by : (rest : Place) → names_of other ≡ names_of one ++ rest → ⊥
        by [] same =
            pairs-at (λ (one other : List ℕ). one ≢ other) emptied only.different i j one other less at at_2
            (spells.spelled ∙ ap (join_with_byte slash) (sym (same ∙ append-nil (names_of one))) ∙ sym spells_2.spelled)
        by (n ∷ rest) same =
            let (within, is_1) = at-get emptied i one at in
            let (within_2, is_2) = at-get emptied j other at_2 in
            let below = IsBelow-spelled one other (names_of one) n rest
            (λ none. spells.some (spells.spelled ∙ ap (join_with_byte slash) none)) spells.spelled
            (spells_2.spelled ∙ ap (join_with_byte slash) same) in
            only.order i j less within_2 (subst (λ o. IsBelow o (get_or emptied i [])) (sym (is_2 []))
            (subst (IsBelow other) (sym (is_1 [])) below))

    -- ---- directories that are made

    made_at : (path : List ℕ) → SpellsNames path → IsMadePath moves actions path → IsMadeAt actions.staged path
    made_at path spells (inl none) = by (begins_as_label path) refl
      where
        foreign : (cs : List Step) → list_any is_reserved_step cs ≡ false → AreForeign (map step_text cs)
        foreign [] none = tt
        foreign (cur ∷ cs) none = (refl, foreign cs none)
        foreign (up ∷ cs) none = (refl, foreign cs none)
        foreign (name n ∷ cs) none =
            let parts = or-false (is_reserved_step (name n)) (list_any is_reserved_step cs) none in (parts.0, foreign cs parts.1)

        by : (b : Bool) → begins_as_label path ≡ b → IsMadeAt actions.staged path
        by true begins = absurd (label-not_foreign path begins (foreign (components path) none))
        by false begins = inl begins
    made_at path spells (inr (k, within, staging, below, (old, is, leaves), named)) =
        let (i, at) = contains-at actions.staged (old, staging) leaves in
        inr (i, old, staging, at, thing (is_text_file old) refl, way below named)
      where
        thing : (b : Bool) → is_text_file old ≡ b → is_text_file old ≡ false
        thing false is_2 = is_2
        thing true is_2 =
            let fine = accepted.apart.come.leave.paths k within in
            let (place, leads_to) = some-of (place_of (move_at moves k).old) fine.placed.old in
            absurd (not-text old (foreign-normal (move_at moves k).old old place fine.not_reserved_old leads_to is) is_2)

        way : (below : Place) → names_of path ≡ staging ∷ below
            → (path ≡ staging) ⊎ ((more : List ℕ) × (path ≡ staging ++ slash ∷ more))
        way [] named = inl (spells.spelled ∙ ap (join_with_byte slash) named)
        way (n ∷ below) named = inr (join_with_byte slash (n ∷ below), spells.spelled ∙ ap (join_with_byte slash) named)

    -- the labels fit together
    pub labelled : IsLabelled plan
    labelled = record {
      labels = label;
      different = different;
      files = files;
      files_differ = files_differ;
      files_labels = files_labels;
      texts = texts;
      made = λ i path at. made_at path (all-at SpellsNames made spelled.made i path at) (all-at
          (IsMadePath moves actions) made made_paths i path at);
      placed = λ i p at.
          all-at IsLeftTo (placed_names actions ++ actions.removed) all_left i p.0 (placed_has i p at);
      removed = λ i n at.
          all-at IsLeftTo (placed_names actions ++ actions.removed) all_left (length (placed_names actions) + i) n (removed_has i n at);
      either = λ i j p n at at_2.
          differ-at (λ (name : List ℕ). name) (placed_names actions ++ actions.removed) moved_free.different i
          (length (placed_names actions) + j) p.0 n
          (let (within, is) = at-get (placed_names actions) i p.0 (at-map (λ (step : List ℕ × List ℕ). step.0) actions.placed i p at) in
          λ same. omega (arith, within, same))
          (placed_has i p at) (removed_has j n at_2);
      once = λ i j one other at at_2 differ.
          differ-at (λ (name : List ℕ). name) (placed_names actions ++ actions.removed) moved_free.different
          (length (placed_names actions) + i) (length (placed_names actions) + j) one other (λ same. differ (omega (arith, same)))
          (removed_has i one at) (removed_has j other at_2);
      all = λ i s at. all-at IsDealtWith (staged_names actions) all_dealt i s.1 (staged_has i s at);
      deepest = deepest;
    }

    -- ---- what is removed is a page that changes

    -- a path without a run's own names isn't at a label or below
    foreign_clear : (path : List ℕ) → AreForeign (names_of path) → (k : ℕ) (z : List ℕ × List ℕ)
        → slice_get actions.staged k ≡ Some z → ¬ IsUnder (names_of path) (names_of z.1)
    foreign_clear path fine k z at (below, under) =
        let it : IsLabel z.1 = label k z at in
        let is : names_of path ≡ label_of it.number ∷ below =
        under ∙ ap (λ top. top ++ below) (ap names_of it.label_is ∙ names_of-label it.number it.is) in
        let own : begins_with (codes ".relmove") (label_of it.number) ≡ false = (subst AreForeign is fine).0 in
        absurd (true≢false own)

    -- what leaves a path that isn't at a label or below has one label
    one_label : (i j : ℕ) (s t : List ℕ × List ℕ) → slice_get actions.staged i ≡ Some s → slice_get actions.staged j ≡ Some t
        → s.0 ≡ t.0
        → ((k : ℕ) (z : List ℕ × List ℕ) → slice_get actions.staged k ≡ Some z → ¬ IsUnder (names_of t.0) (names_of z.1))
        → s.1 ≡ t.1
    one_label i j s t at at_2 same clear = elim (equal_or i j) [
      | inl one ↦
          let e : Some s ≡ Some t = sym at ∙ ap (slice_get actions.staged) one ∙ at_2 in
          ap (λ (s : List ℕ × List ℕ). s.1) (let is : s ≡ t = cc e in is)
      | inr differ ↦ absurd (elim (cases_lt i j) [
        | inl less ↦ twice i j s t less at at_2 (ap names_of same) clear
        | inr past ↦ elim (cases_lt j i) [
          | inl less ↦
              twice j i t s less at_2 at (ap names_of (sym same)) (λ k z at_3.
              subst (λ path. ¬ IsUnder (names_of path) (names_of z.1)) (sym same) (clear k z at_3))
          | inr past_2 ↦ differ (omega (arith, past, past_2))
        ]
      ])
    ]

    -- nothing is removed at a label from which something comes
    not_both : (i : ℕ) (label to : List ℕ) → slice_get actions.removed i ≡ Some label
        → Contains actions.placed (label, to) → ⊥
    not_both i label to at comes =
        let (j, at_2) = contains-at actions.placed (label, to) comes in labelled.either j i (label, to) label at_2 at refl

    -- what is removed left the path of a page that changes
    removed_page : EachMove (DoesMove changed actions) moves → (i j : ℕ) (label from : List ℕ)
        → slice_get actions.removed i ≡ Some label → slice_get actions.staged j ≡ Some (from, label)
        → ((k : ℕ) → k < length changed → IsNormalTextOf (path_at changed k) from → ⊥) → ⊥
    removed_page moved i j label from at at_2 no_page =
        by (all-at (λ step. LeavesFrom moves changed actions.texts step.0) actions.staged only.leave j (from, label) at_2)
      where
        by : LeavesFrom moves changed actions.texts from → ⊥
        by (of_page k within is) = no_page k within is
        by (of_text page text has) =
            let (a, at_3) = contains-at actions.texts (page, from, text) has in
            let (k, other, to, at_4, comes) = carried a (page, from, text) at_3 in
            let same : other ≡ label =
            one_label k j (from, other) (from, label) at_4 at_2 refl (λ m z at_5.
            file_clear j m (from, label) z at_2 at_5 (ap begins_as_label (text_file a (page, from, text) at_3).last)) in
            not_both i label to at (subst (λ label. Contains actions.placed (label, to)) same comes)
        by (of_move k within is) =
            let fine = accepted.apart.come.leave.paths k within in
            let (place, leads_to) = some-of (place_of (move_at moves k).old) fine.placed.old in
            let carries = (moved k within).carries (λ m within_2 same.
            no_page m within_2 (IsNormalTextOf-same (path_at changed m) from is.normal_text (IsSame-trans (IsSame-sym same) is.same))) in
            let (m, at_3) = contains-at actions.staged (carries.old, carries.carries.staging) carries.carries.leaves in
            let same : carries.carries.staging ≡ label =
            one_label m j (carries.old, carries.carries.staging) (from, label) at_3 at_2
            (is.only carries.old carries.old_of.normal_text carries.old_of.same)
            (foreign_clear from (foreign-normal (move_at moves k).old from place fine.not_reserved_old leads_to is)) in
            not_both i label carries.new at (subst (λ label. Contains actions.placed (label, carries.new)) same carries.carries.comes)

    -- a page that changes is among the pages
    changed_page : (k : ℕ) → k < length changed
        → (page : SitePage) × Contains pages page × (components page.path.now ≡ path_at changed k)
    changed_page k within =
        All-changed_paths (λ cs. (page : SitePage) × Contains pages page × (components page.path.now ≡ cs)) pages news
        (All-map (λ cs. (page : SitePage) × Contains pages page × (components page.path.now ≡ cs))
        (λ (page : SitePage). components page.path.now) pages
        (λ m page within_2. (get_or pages m page, All-contains_itself pages m page within_2, refl))) k [] within

    -- what is removed is a page with a text, if each page has one
    pub never_lacks : EachMove (DoesMove changed actions) moves → (page_texts : List (List ℕ × List ℕ))
        → HaveTexts pages page_texts → ¬ LacksOldText plan page_texts
    never_lacks moved page_texts have (label_2, among, why) =
        let (i, at) = contains-at actions.removed label_2 among in
        let (j, from, at_2) = labelled.removed i label_2 at in
        removed_page moved i j label_2 from at at_2 (λ k within is. by j from at_2 k within is why)
      where
        by : (j : ℕ) (from : List ℕ) → slice_get actions.staged j ≡ Some (from, label_2) → (k : ℕ) → k < length changed
            → IsNormalTextOf (path_at changed k) from
            → ((path : List ℕ) → IsThingOf actions.staged label_2 path → ⊥)
            ⊎ ((path : List ℕ) × IsThingOf actions.staged label_2 path
            × ((text : List ℕ) → Contains page_texts (path, text) → ⊥)) → ⊥
        by j from at k within is (inl none) =
            none from (label_2, at-contains actions.staged j (from, label_2) at, thing (is_text_file from) refl, refl)
          where
            thing : (b : Bool) → is_text_file from ≡ b → is_text_file from ≡ false
            thing false is_2 = is_2
            thing true is_2 = absurd (not-text from (page_foreign k from within is) is_2)
        by j from at k within is (inr (path, (own_label, there, thing, same), none)) =
            let (m, at_3) = contains-at actions.staged (path, own_label) there in
            let one : IsLabel label_2 = label j (from, label_2) at in
            let two : IsLabel own_label = label m (path, own_label) at_3 in
            let number : two.number ≡ one.number =
            append_cancel_left (codes ".relmove-run/") two.number one.number
            (sym (staging_path-label two.number two.is) ∙ ap staging_path (sym two.label_is) ∙ same ∙ ap staging_path one.label_is
            ∙ staging_path-label one.number one.is) in
            let labels : own_label ≡ label_2 = two.label_is ∙ ap label_of number ∙ sym one.label_is in
            let path_is : path ≡ from = elim (equal_or m j) [
              | inl e ↦
                  ap (λ (s : List ℕ × List ℕ). s.0) (same_Some (path, own_label) (from, label_2)
                  (sym at_3 ∙ ap (slice_get actions.staged) e ∙ at))
              | inr differ ↦ absurd (different m j (path, own_label) (from, label_2) at_3 at differ labels)
            ] in
            let (page, among_2, components_are) = changed_page k within in
            let (page_path, text, page_is, has) = have page among_2 in
            let same_path : page_path ≡ from =
            is.only page_path page_is.normal_text (subst (λ cs. IsSame cs (components page_path)) components_are page_is.same) in
            none text (subst (λ path. Contains page_texts (path, text)) (same_path ∙ sym path_is) has)
