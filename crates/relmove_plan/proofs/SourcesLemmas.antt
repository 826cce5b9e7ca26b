-- The places from which a run's renames lead, in a whole tree: entries, and new files, which are where no entry is.
use Rattle.std.proofs.Common.{All, Bool, false, ◌≡◌, ◌≢◌, ℕ, zero, suc, ◌<◌, List, [], ◌∷◌, ◌++◌, Contains, Some, length, map, get_or, inl, inr, refl, sym, ap, subst, ◌∙◌, arith, ◌⊎◌}
use Rattle.std.specs.List.{Any, join_with_byte}
use Rattle.std.proofs.lemmas.List.{get_or-map, get_or_default, length-map, map-append}
use Rattle.relative_path.specs.Steps.{Step, name, components, slash}
use Rattle.relative_path.specs.Naming.{file_name_of}
use Rattle.relative_path.specs.Walk.{IsSame, place_of}
use Rattle.relative_path.specs.Normalizing.{IsNormalTextOf}
use Rattle.relative_path.proofs.ForCallers.{components-place, kept-name, walk-names}
use Rattle.relative_path_moves.specs.Moves.{Move, move_at}
use Rattle.relative_path_places.specs.Places.{directory}
use Rattle.relative_path_places.specs.PlaceIndex.{IsNoneAt, path_at}
use Rattle.relative_path_moves.specs.TreeMoves.{TakesAlong}
use Rattle.relmove_checks.specs.declared.entry.Entry.{Entry}
use Rattle.relmove_checks.specs.Moves.{EachMove}
use Rattle.relmove_checks.specs.Trees.{IsThere, IsOldFine, entry_paths, is_directory}
use Rattle.relmove_steps.specs.StagingNames.{numbered_name}
use Rattle.relmove_steps.specs.NewFiles.{HaveOwnFiles, IsNextTo}
use Rattle.relmove_trees.specs.FileTrees.{IsUnder, names_of}
use Rattle.relmove_steps.specs.Actions.{ActionTexts, LeavesFrom, of_move, of_page, of_text, staged_names}
use Rattle.relmove_plan.specs.WholeTrees.{IsAt, IsHeld, LeadsToFile, IsWhole}
use Rattle.relmove_plan.proofs.PlacesLemmas.{joined-names, names_of-normal, names_of-names, spelled-place}
use Rattle.relmove_plan.proofs.WholeTreesLemmas.{IsAt-some, IsNoneAt-under, IsSame-one_place, LeadsToFile-under, not_empty, path_at-entry, some_of}
use Rattle.relmove_trees.proofs.FileTreesLemmas.{last_view}
use Rattle.std.proofs.lemmas.List.Elements.{All-tail, All-nil, All-cons}

-- an element by its number
pub element : {X : Type 0} (xs : List X) (k : ℕ) → k < length xs → (x : X) × (get_or xs k x ≡ x)
element [] k within = absurd (let w : k < 0 = within in omega (arith, w))
element (x ∷ xs) zero within = (x, refl)
element (x ∷ xs) (suc k) within = let (y, is) = element xs k (omega (arith, within)) in (y, is)

-- what holds of each element by its number holds of all
pub All-element : {X : Type 0} (P : X → Type 0) (xs : List X)
    → ((k : ℕ) (x : X) → k < length xs → get_or xs k x ≡ x → P x) → All P xs
All-element P xs each = λ k d within.
    let (x, is) = element xs k within in
    subst P (sym (get_or_default xs k d x within ∙ is)) (each k x within is)

-- P holds of one of the elements, or of none, if that can be told of each
pub any_or : {X : Type 0} (P : X → Type 0) (xs : List X) → All (λ x. P x ⊎ (¬ P x)) xs → Any P xs ⊎ All (λ x. ¬ P x) xs
any_or {X} P [] each = inr (All-nil (λ (x : X). ¬ P x))
any_or {X} P (x ∷ xs) each = by (each 0 x (omega arith)) (any_or P xs (All-tail (λ (x : X). P x ⊎ (¬ P x)) x xs each))
  where
    by : P x ⊎ (¬ P x) → Any P xs ⊎ All (λ x. ¬ P x) xs → Any P (x ∷ xs) ⊎ All (λ x. ¬ P x) (x ∷ xs)
    by (inl holds) rest = inl (0, x, omega arith, refl, holds)
    by (inr fails) (inl (k, y, within, is, holds)) = inl (suc k, y, omega (arith, within), is, holds)
    by (inr fails) (inr none) = inr (All-cons (λ (x : X). ¬ P x) x xs fails none)

-- an element of a mapped list
pub get_or-map_element : {X Y : Type 0} (f : X → Y) (xs : List X) (k : ℕ) (x : X) (d : Y) → k < length xs → get_or xs k x ≡ x
    → get_or (map f xs) k d ≡ f x
get_or-map_element f xs k x d within is = get_or-map f xs k x d within ∙ ap f is

-- what holds of what each element is mapped to holds of each element of the mapped list
pub each-map : {X Y : Type 0} (f : X → Y) (xs : List X) (P : ℕ → Y → Type 0)
    → ((k : ℕ) (x : X) → k < length xs → get_or xs k x ≡ x → P k (f x))
    → (k : ℕ) (y : Y) → k < length (map f xs) → get_or (map f xs) k y ≡ y → P k y
each-map f xs P each k y within is =
    let within_2 : k < length xs = rw length-map at within in
    let (x, x_is) = element xs k within_2 in
    subst (P k) (sym (get_or-map_element f xs k x y within_2 x_is) ∙ is) (each k x within_2 x_is)

-- a place under another begins with the same name
pub IsUnder-first : (n m : List ℕ) (ns ms : List (List ℕ)) → IsUnder (n ∷ ns) (m ∷ ms) → n ≡ m
IsUnder-first n m ns ms (below, is) = ap (λ place. get_or place 0 n) is

-- a place that isn't the top has a first name
pub first_of : (place : List (List ℕ)) → place ≢ [] → (n : List ℕ) × (ns : List (List ℕ)) × (place ≡ n ∷ ns)
first_of [] some = absurd (some refl)
first_of (n ∷ ns) some = (n, ns, refl)

-- the place from which something leaves: an entry is there, or a new file
pub data IsFrom (entries : List Entry) (moves : List Move) (changed : List (List Step)) (names : List (List ℕ))
    (place : List (List ℕ)) : Type 0 where
  from_move : (k : ℕ) → k < length moves → place_of (move_at moves k).old ≡ Some place
      → IsFrom entries moves changed names place
  from_page : (k : ℕ) → k < length changed → (file : LeadsToFile entries (path_at changed k)) → place ≡ file.place
      → IsFrom entries moves changed names place
  from_file : (k : ℕ) → k < length changed → (top : LeadsToFile entries (path_at changed k)) (front : List (List ℕ))
      (n last : List ℕ) → top.place ≡ front ++ last ∷ [] → place ≡ front ++ n ∷ []
      → IsNoneAt (entry_paths entries) (map name place)
      → All (λ staging. place ≢ staging ∷ []) names → IsFrom entries moves changed names place

-- what is known of the path from which something leaves
pub record IsSource (entries : List Entry) (moves : List Move) (changed : List (List Step)) (names : List (List ℕ))
    (from : List ℕ) : Type 0 where
  pub place : List (List ℕ)
  pub some : place ≢ []
  pub named : names_of from ≡ place
  pub spelled : from ≡ join_with_byte slash place
  pub plain : components from ≡ map name place
  pub leads : place_of (components from) ≡ Some place
  pub is_from : IsFrom entries moves changed names place

module _ (entries : List Entry) (pages : List (List Step)) (whole : IsWhole entries pages) where
  -- an entry that is somewhere is at a place
  pub IsThere-place : (cs : List Step) → IsThere entries cs
      → (b : Bool) × (place : List (List ℕ)) × (place_of cs ≡ Some place) × Any (IsAt b place) entries
  IsThere-place cs (e, first) =
      let within : e < length entries = rw (length-map entries (λ (entry : Entry). components entry.path)) at first.within in
      let (entry, is) = element entries e within in
      let held : IsHeld entries entry = subst (IsHeld entries) is (whole.held e entry within) in
      let same : IsSame cs (components entry.path) =
      subst (IsSame cs) (path_at-entry entries e entry within is) first.same in (
        is_directory entry.kind,
        held.directory ++ held.name ∷ [],
        same.everywhere [] ∙ held.leads,
        (e, entry, within, is, record { kind = refl; leads = held.leads }),
      )

  module _ (moves : List Move) (changed : List (List Step)) (files : All (LeadsToFile entries) changed)
      (olds : EachMove (λ move. IsOldFine entries move.old) moves) (actions : ActionTexts)
      (own : HaveOwnFiles (entry_paths entries) changed actions)
    where
      file_of : (k : ℕ) → k < length changed → LeadsToFile entries (path_at changed k)
      file_of k within = files k [] within

      IsSource-normal : (cs : List Step) (from : List ℕ) (place : List (List ℕ)) → IsNormalTextOf cs from
          → place_of cs ≡ Some place → place ≢ [] → IsFrom entries moves changed (staged_names actions) place
          → IsSource entries moves changed (staged_names actions) from
      IsSource-normal cs from place is leads some is_from = record {
        place = place;
        some = some;
        named = names_of-normal cs from place is leads;
        spelled = spelled-place cs from place is leads;
        plain = components-place is leads;
        leads = sym (is.same.everywhere []) ∙ leads;
        is_from = is_from;
      }

      -- what leaves is known
      pub IsSource-leaves : (from : List ℕ) → LeavesFrom moves changed actions.texts from
          → IsSource entries moves changed (staged_names actions) from
      IsSource-leaves from (of_move k within is) =
          let (b, place, leads, at) = IsThere-place (move_at moves k).old (olds k within).there in
          IsSource-normal (move_at moves k).old from place is leads (IsAt-some entries pages whole b place at)
          (IsFrom.from_move k within leads)
      IsSource-leaves from (of_page k within is) =
          let top = file_of k within in
          IsSource-normal (path_at changed k) from top.place is top.leads
          (IsAt-some entries pages whole false top.place top.file) (IsFrom.from_page k within top refl)
      IsSource-leaves from (of_text old text (j, less, is)) =
          by (own.of_pages j (old, from, text) less) (own.next_to j (old, from, text) less)
          (own.unused j (old, from, text) less)
          (λ i d l same. own.no_name j (old, from, text) less i d l (ap file_name_of same))
        where
          new : List ℕ × List ℕ × List ℕ
          new = get_or actions.texts j (old, from, text)

          by : (k : ℕ) × (k < length changed) × IsNormalTextOf (path_at changed k) new.0 → IsNextTo new.0 new.1
              → IsNoneAt (entry_paths entries) (components new.1) → All (λ staging. new.1 ≢ staging) (staged_names actions)
              → IsSource entries moves changed (staged_names actions) from
          by (k, within, is_page) next_to unused no_name =
              let top = file_of k within in
              elim (last_view top.place) [
                | inl none ↦ absurd (IsAt-some entries pages whole false top.place top.file none)
                | inr (front, last, split) ↦
                    let n = numbered_name next_to.number in
                    let place : List (List ℕ) = front ++ n ∷ [] in
                    let spelled : components new.0 ≡ map name front ++ name last ∷ [] =
                    components-place is_page top.leads ∙ ap (map name) split ∙ map-append name front (last ∷ []) in
                    let from_is : new.1 ≡ from = ap (λ (new : List ℕ × List ℕ × List ℕ). new.1) is in
                    let file_is : components new.1 ≡ map name place =
                    next_to.next
                    ∙ ap (λ ds. ds ++ name n ∷ []) (ap directory spelled ∙ kept-name (map name front) last)
                    ∙ sym (map-append name front (n ∷ [])) in
                    let cs : components from ≡ map name place = sym (ap components from_is) ∙ file_is in
                    let joined : from ≡ join_with_byte slash place =
                    sym from_is ∙ joined-names new.1 place next_to.spelled file_is in
                    let none : IsNoneAt (entry_paths entries) (map name place) =
                    subst (IsNoneAt (entry_paths entries)) file_is unused in
                    let no_name_2 : All (λ staging. place ≢ staging ∷ []) (staged_names actions) =
                    λ j d l same. no_name j d l (from_is ∙ joined ∙ ap (join_with_byte slash) same) in
                    record {
                      place = place;
                      some = not_empty front n [];
                      named = names_of-names from place cs;
                      spelled = joined;
                      plain = cs;
                      leads = ap place_of cs ∙ walk-names [] place;
                      is_from = IsFrom.from_file k within top front n last split refl none no_name_2;
                    }
              ]

      -- what takes an entry along that isn't a page that changes is a move
      pub IsFrom-under : (b : Bool) (place top below : List (List ℕ)) → IsFrom entries moves changed (staged_names actions) top
          → Any (IsAt b place) entries → IsNoneAt changed (map name place) → place ≡ top ++ below → top ≢ []
          → (k : ℕ) × TakesAlong moves place k below
      IsFrom-under b place top below (IsFrom.from_move k within leads) at other under some =
          (k, record { within = within; top = top; old = leads; down = under })
      IsFrom-under b place top below (IsFrom.from_page k within file is) at other under some =
          let here : place ≡ file.place =
          LeadsToFile-under entries pages whole (path_at changed k) b place file at (below, under ∙ ap (λ top. top ++ below) is) in
          absurd (other k within (IsSame-one_place place (walk-names [] place) (file.leads ∙ ap Some (sym here))))
      IsFrom-under b place top below (IsFrom.from_file k within top_file front n last split is none no_name) at other under some =
          absurd (IsNoneAt-under entries pages whole (map name top) b place top none (walk-names [] top) some at (below, under))

      -- nothing leaves from below a name where no entry is, if the name isn't a new file's
      pub IsFrom-apart : (staging : List ℕ) (below top : List (List ℕ)) → IsFrom entries moves changed (staged_names actions) top
          → top ≢ [] → IsNoneAt (entry_paths entries) (map name (staging ∷ [])) → Contains (staged_names actions) staging
          → ¬ IsUnder (staging ∷ below) top
      IsFrom-apart staging below top from some none (i, within, is) under = by top from some under
        where
          no_entry : (b : Bool) (place : List (List ℕ)) → Any (IsAt b (staging ∷ place)) entries → ⊥
          no_entry b place at =
              IsNoneAt-under entries pages whole (map name (staging ∷ [])) b (staging ∷ place) (staging ∷ []) none
              (walk-names [] (staging ∷ [])) (not_empty [] staging []) at (place, refl)

          begins : (top : List (List ℕ)) → top ≢ [] → IsUnder (staging ∷ below) top
              → (place : List (List ℕ)) × (top ≡ staging ∷ place)
          begins [] some under = absurd (some refl)
          begins (n ∷ place) some under = (place, ap (λ first. first ∷ place) (sym (IsUnder-first staging n below place under)))

          by : (top : List (List ℕ)) → IsFrom entries moves changed (staged_names actions) top → top ≢ []
              → IsUnder (staging ∷ below) top → ⊥
          by top (IsFrom.from_move k within leads) some under =
              let (b, place, leads_2, at) = IsThere-place (move_at moves k).old (olds k within).there in
              let (rest, is) = begins top some under in
              let here : place ≡ staging ∷ rest = some_of (sym leads_2 ∙ leads) ∙ is in
              no_entry b rest (subst (λ place. Any (IsAt b place) entries) here at)
          by top (IsFrom.from_page k within file same) some under =
              let (rest, is) = begins top some under in
              no_entry false rest (subst (λ place. Any (IsAt false place) entries) (sym same ∙ is) file.file)
          by top (IsFrom.from_file k inside top_file front n last split same none no_name) some under =
              let (rest, is) = begins top some under in
              next_to front split same rest (sym same ∙ is)
            where
              next_to : (front : List (List ℕ)) → top_file.place ≡ front ++ last ∷ [] → top ≡ front ++ n ∷ []
                  → (rest : List (List ℕ)) → front ++ n ∷ [] ≡ staging ∷ rest → ⊥
              next_to [] split here rest is_2 =
                  no_name i staging within
                  (here ∙ ap (λ first. first ∷ []) (ap (λ place. get_or place 0 n) is_2 ∙ sym is))
              next_to (d ∷ front) split here rest is =
                  no_entry false (front ++ last ∷ [])
                  (subst (λ place. Any (IsAt false place) entries)
                  (split ∙ ap (λ first. first ∷ front ++ last ∷ []) (ap (λ place. get_or place 0 d) is)) top_file.file)
