-- Where entries are after the moves.
use Rattle.std.proofs.Common.{◌≡◌, ◌↔◌, ℕ, ◌<◌, ◌≤◌, ◌+◌, Bool, true, false, true≢false, List, [], ◌∷◌, ◌++◌, Option, Some, None, is_some, map, length, take, get_or, IsTrue, inl, inr, sym, ap, subst, ◌∙◌, arith}
use Rattle.std.proofs.lemmas.Bool.{cases_lt}
use Rattle.std.proofs.lemmas.Slice.Zip.{all_zipped_more}
use Rattle.std.proofs.lemmas.List.{get_or-map, get_or-take, length-map, take_more, length-take-le}
use Rattle.relative_path.specs.Steps.{Step, components}
use Rattle.relative_path.specs.Walk.{IsSame}
use Rattle.relative_path.specs.Normalizing.{IsNormalText, IsNormalTextOf}
use Rattle.relative_path.proofs.ForCallers.{IsSame-refl, IsSame-sym, IsSame-trans}
use Rattle.relative_path_moves.specs.Moves.{Move}
use Rattle.relative_path_moves.specs.TreeMoves.{AtTreePath}
use Rattle.relative_path_places.specs.PlaceIndex.{Indexes, IsFirstAt, IsFoundAt, path_at}
use Rattle.relative_path_places.specs.declared.place_index.PlaceIndex.{PlaceIndex}
use Rattle.relmove_checks.specs.declared.entry.Entry.{Entry}
use Rattle.relative_path_places.proofs.ForCallers.{IsNormalTextOf-same}
use Rattle.relmove_checks.specs.Trees.{entry_paths, IsThere, IsAfter, AreAfter}

-- what gets another normal path is elsewhere after the moves
pub AtTreePath-elsewhere : (moves : List Move) (cs : List Step) (after place : List ℕ) (equal : Bool)
    → AtTreePath moves cs (λ target. IsNormalTextOf target after) → IsNormalTextOf cs place
    → (IsTrue equal ↔ IsSame (components after) (components place)) → equal ≡ false
    → AtTreePath moves cs (λ target. ¬ IsSame target cs)
AtTreePath-elsewhere moves cs after place equal (target, is, normal) here compared differ = (
  target,
  is,
  λ same. true≢false (sym (compared.1 (IsSame-trans (IsSame-sym normal.same) (IsSame-trans same here.same))) ∙ differ),
)

-- what gets its own normal path is there after the moves
pub AtTreePath-there : (moves : List Move) (cs : List Step) (after place : List ℕ) (equal : Bool)
    → AtTreePath moves cs (λ target. IsNormalTextOf target after) → IsNormalTextOf cs place
    → (IsTrue equal ↔ IsSame (components after) (components place)) → equal ≡ true
    → AtTreePath moves cs (λ target. IsSame target cs)
AtTreePath-there moves cs after place equal (target, is, normal) here compared same =
    (target, is, IsSame-trans normal.same (IsSame-trans (compared.0 same) (IsSame-sym here.same)))

-- the paths of the entries up to the next
pub take_more-entry_paths : (entries : List Entry) (none : Entry) (k : ℕ) → k < length entries
    → take (k + 1) (entry_paths entries)
    ≡ take k (entry_paths entries) ++ components (get_or entries k none).path ∷ []
take_more-entry_paths entries none k l =
    take_more (entry_paths entries) k [] (rw (length-map entries (λ entry. components entry.path)) l)
    ∙ ap (λ path. take k (entry_paths entries) ++ path ∷ []) (get_or-map _ entries k none [] l)

pub length-take_entry_paths : (entries : List Entry) (k : ℕ) → k < length entries
    → length (take k (entry_paths entries)) ≡ k
length-take_entry_paths entries k l =
    let count = length-map entries (λ entry. components entry.path) in
    length-take-le k (entry_paths entries) (omega (arith, l, count))

-- an entry that an index finds is there
pub IsThere-found : (entries : List Entry) (cs : List Step) (found : Option ℕ) → is_some found ≡ true
    → IsFoundAt (entry_paths entries) cs found → IsThere entries cs
IsThere-found entries cs None some is = absurd (true≢false (sym some))
IsThere-found entries cs (Some e) some is = (e, is)

-- ---- paths without a collision

-- the first of some of the paths is the first of all of them
pub IsFirstAt-take : (paths : List (List Step)) (k : ℕ) (cs : List Step) (f : ℕ) → k < length paths
    → IsFirstAt (take (k + 1) paths) cs f → IsFirstAt paths cs f
IsFirstAt-take paths k cs f within is =
    let count : length (take (k + 1) paths) ≡ k + 1 = length-take-le (k + 1) paths (omega (arith, within)) in
    let f_in : f < k + 1 = omega (arith, is.within, count) in
    record {
      within = omega (arith, f_in, within);
      same = rw (get_or-take (k + 1) paths f [] f_in) at is.same;
      first = λ j l same. is.first j l (rw (get_or-take (k + 1) paths j [] (omega (arith, l, f_in))) same);
    }

-- a path that is the first where it leads is the first there of all of them
pub IsFirstAt-self : (paths : List (List Step)) (k first : ℕ) → IsFirstAt paths (path_at paths k) first → k ≤ first
    → IsFirstAt paths (path_at paths k) k
IsFirstAt-self paths k first is late = elim (cases_lt k first) [
  | inl less ↦ absurd (is.first k less (IsSame-refl (path_at paths k)))
  | inr no_less ↦
      let e : first ≡ k = omega (arith, late, no_less) in subst (λ f. IsFirstAt paths (path_at paths k) f) e is
]

module _ (texts : List (List ℕ)) (k : ℕ) (text : List ℕ) (within : k < length texts) (is : text ≡ get_or texts k text) where
  count : length (map components texts) ≡ length texts
  count = length-map texts components

  path_here : path_at (map components texts) k ≡ components text
  path_here = get_or-map components texts k text [] within ∙ ap components (sym is)

  -- the paths up to the next
  take_more-paths : take (k + 1) (map components texts) ≡ take k (map components texts) ++ components text ∷ []
  take_more-paths =
      take_more (map components texts) k [] (rw count within)
      ∙ ap (λ path. take k (map components texts) ++ path ∷ []) path_here

  pub length-take_paths : length (take k (map components texts)) ≡ k
  length-take_paths = length-take-le k (map components texts) (omega (arith, within, count))

  pub Indexes-paths : (index : PlaceIndex) → Indexes (take k (map components texts) ++ components text ∷ []) index
      → Indexes (take (k + 1) (map components texts)) index
  Indexes-paths index has = subst (λ paths. Indexes paths index) (sym take_more-paths) has

  -- the first of the paths up to the next that leads where the next does
  pub IsFirstAt-paths : (first : ℕ) → IsFirstAt (take k (map components texts) ++ components text ∷ []) (components text) first
      → IsFirstAt (map components texts) (path_at (map components texts) k) first
  IsFirstAt-paths first found =
      subst (λ cs. IsFirstAt (map components texts) cs first) (sym path_here)
      (IsFirstAt-take (map components texts) k (components text) first (rw count within)
      (subst (λ paths. IsFirstAt paths (components text) first) (sym take_more-paths) found))

-- ---- entries, one after another

pub Indexes-entries : (entries : List Entry) (entry : Entry) (k : ℕ) (index : PlaceIndex) → k < length entries
    → entry ≡ get_or entries k entry → Indexes (take k (entry_paths entries) ++ components entry.path ∷ []) index
    → Indexes (take (k + 1) (entry_paths entries)) index
Indexes-entries entries entry k index l is has =
    subst (λ paths. Indexes paths index) (sym (take_more-entry_paths entries entry k l))
    (subst (λ (entry : Entry). Indexes (take k (entry_paths entries) ++ components entry.path ∷ []) index) is has)

pub AreAfter-next : (moves : List Move) (entries : List Entry) (entry : Entry) (texts : List (List ℕ)) (text : List ℕ)
    (k : ℕ) → k < length entries → entry ≡ get_or entries k entry → AreAfter moves (take k entries) texts
    → IsAfter moves entry text → AreAfter moves (take (k + 1) entries) (texts ++ text ∷ [])
AreAfter-next moves entries entry texts text k l here before is =
    rw (take_more entries k entry l)
    (all_zipped_more (IsAfter moves) (take k entries) texts (get_or entries k entry) text before
    (subst (λ (entry : Entry). IsAfter moves entry text) here is))

-- a normal text is the normal text of its components
pub IsNormalTextOf-itself : (text : List ℕ) → IsNormalText text → IsNormalTextOf (components text) text
IsNormalTextOf-itself text normal =
    IsNormalTextOf-same (components text) text normal (IsSame-refl (components text))
