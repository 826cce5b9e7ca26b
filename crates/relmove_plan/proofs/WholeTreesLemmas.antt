-- Whole trees: what is above an entry is a directory of the tree.
use Rattle.std.proofs.Common.{Bool, true, false, true≢false, ◌≡◌, ◌≢◌, ◌⊎◌, ℕ, zero, suc, ◌<◌, ◌≤◌, List, [], ◌∷◌, ◌++◌, Option, Some, length, map, unwrap_or, get_or, inl, inr, refl, sym, ap, subst, ◌∙◌, append_assoc, append-nil, arith}
use Rattle.std.specs.List.{Any}
use Rattle.std.proofs.lemmas.Bool.{cases_order}
use Rattle.std.proofs.lemmas.List.{get_or-map, get_or_default, length-append, length-map}
use Rattle.relative_path.specs.Steps.{Step, components}
use Rattle.relative_path.specs.Walk.{IsSame, place_of}
use Rattle.relative_path.proofs.ForCallers.{IsSame-place, IsSame-sym, IsSame-trans}
use Rattle.relative_path_places.specs.PlaceIndex.{IsNoneAt, path_at}
use Rattle.relmove_checks.specs.declared.entry.Entry.{Entry}
use Rattle.relmove_checks.specs.Trees.{entry_paths, is_directory}
use Rattle.relmove_trees.specs.FileTrees.{IsUnder}
use Rattle.relmove_plan.specs.WholeTrees.{IsAt, HasDirectoryAt, IsHeld, LeadsToFile, IsWhole}
use Rattle.relmove_trees.proofs.FileTreesLemmas.{last_view, push_front}

-- ---- lists of names from their end

pub not_empty : {X : Type 0} (xs : List X) (y : X) (ys : List X) → xs ++ y ∷ ys ≢ []
not_empty xs y ys none =
    absurd (let count = ap length none in let long = length-append xs (y ∷ ys) in omega (arith, count, long))

pub some_append : {X : Type 0} (xs ys : List X) → xs ≢ [] → xs ++ ys ≢ []
some_append [] ys some = absurd (some refl)
some_append (x ∷ xs) ys some = not_empty [] x (xs ++ ys)

pub front_none : {X : Type 0} (xs ys : List X) → [] ≡ xs ++ ys → xs ≡ []
front_none [] ys none = refl
front_none (x ∷ xs) ys none = cc none

-- what is mapped to an empty list is empty
pub map_none : {X Y : Type 0} (f : X → Y) (xs : List X) → map f xs ≡ [] → xs ≡ []
map_none f [] none = refl
map_none f (x ∷ xs) none = cc none

-- if P holds of no two numbers, those of which it holds are one
pub one_number : (P : ℕ → Type 0) → ((i j : ℕ) → i < j → P i → P j → ⊥) → (i j : ℕ) → P i → P j → i ≡ j
one_number P differ i j one other = elim (cases_order i j) [
  | inl same ↦ same
  | inr (inl less) ↦ absurd (differ i j less one other)
  | inr (inr more) ↦ absurd (differ j i more other one)
]

-- ---- entries at places

pub some_of : {X : Type 0} {x y : X} → Some x ≡ Some y → x ≡ y
some_of {X} {x} {y} same = ap (λ (o : Option X). unwrap_or o x) same

-- lists that lead to one place
pub IsSame-one_place : {cs ds : List Step} (place : List (List ℕ)) → place_of cs ≡ Some place → place_of ds ≡ Some place
    → IsSame cs ds
IsSame-one_place place one other = IsSame-trans (IsSame-place one) (IsSame-sym (IsSame-place other))

module _ (entries : List Entry) where
  -- the path of an entry
  pub path_at-entry : (k : ℕ) (entry : Entry) → k < length entries → get_or entries k entry ≡ entry
      → path_at (entry_paths entries) k ≡ components entry.path
  path_at-entry k entry within is =
      get_or-map (λ (entry : Entry). components entry.path) entries k entry [] within
      ∙ ap (λ (entry : Entry). components entry.path) is

  -- no entry is where nothing leads
  pub IsNoneAt-entry : (cs : List Step) (b : Bool) (place : List (List ℕ)) → IsNoneAt (entry_paths entries) cs
      → place_of cs ≡ Some place → Any (IsAt b place) entries → ⊥
  IsNoneAt-entry cs b place none leads (k, entry, within, is, at) =
      none k (rw (length-map entries (λ (entry : Entry). components entry.path)) within)
      (subst (IsSame cs) (sym (path_at-entry k entry within is)) (IsSame-one_place place leads at.leads))

module _ (entries : List Entry) (pages : List (List Step)) (whole : IsWhole entries pages) where
  pub held_at : (k : ℕ) (entry : Entry) → k < length entries → get_or entries k entry ≡ entry → IsHeld entries entry
  held_at k entry within is = subst (IsHeld entries) is (whole.held k entry within)

  -- the entries at one place are one entry
  pub IsAt-one : (b c : Bool) (place : List (List ℕ)) → Any (IsAt b place) entries → Any (IsAt c place) entries → b ≡ c
  IsAt-one b c place (k, entry, within, is, at) (l, other, within_2, is_2, at_2) =
      sym at.kind ∙ ap (λ (entry : Entry). is_directory entry.kind) same ∙ at_2.kind
    where
      one : k ≡ l
      one =
          one_number (λ k. (entry : Entry) × (k < length entries) × (get_or entries k entry ≡ entry)
          × (place_of (components entry.path) ≡ Some place))
          (λ k l less (entry, within, is, leads) (other, within_2, is_2, leads_2).
          (whole.distinct l (rw (length-map entries (λ (entry : Entry). components entry.path)) within_2)).first k less
          (rw (path_at-entry entries l other within_2 is_2, path_at-entry entries k entry within is)
          (IsSame-one_place place leads_2 leads)))
          k l (entry, within, is, at.leads) (other, within_2, is_2, at_2.leads)

      same : entry ≡ other
      same = sym is ∙ ap (λ j. get_or entries j entry) one ∙ get_or_default entries l entry other within_2 ∙ is_2

  -- an entry isn't at the root
  pub IsAt-some : (b : Bool) (place : List (List ℕ)) → Any (IsAt b place) entries → place ≢ []
  IsAt-some b place (k, entry, within, is, at) none =
      let held = held_at k entry within is in
      not_empty held.directory held.name [] (some_of (sym held.leads ∙ at.leads) ∙ none)

  -- what is above an entry is a directory of the tree, if what is above the entry's directory is
  above_held : (b : Bool) (top : List (List ℕ)) (n : List ℕ) (rest : List (List ℕ)) → top ≢ []
      → ((front : List (List ℕ)) → length front < length rest → HasDirectoryAt entries (top ++ n ∷ front)
      → HasDirectoryAt entries top)
      → Any (IsAt b (top ++ n ∷ rest)) entries → HasDirectoryAt entries top
  above_held b top n rest some higher (k, entry, within, is, at) = by (last_view rest)
    where
      held : IsHeld entries entry
      held = held_at k entry within is

      same : held.directory ++ held.name ∷ [] ≡ top ++ n ∷ rest
      same = some_of (sym held.leads ∙ at.leads)

      by : (rest ≡ []) ⊎ ((front : List (List ℕ)) × (end : List ℕ) × (rest ≡ front ++ end ∷ []))
          → HasDirectoryAt entries top
      by (inl none) =
          let is_top : held.directory ≡ top =
          push_front held.directory top held.name n (same ∙ ap (λ rest. top ++ n ∷ rest) none) in
          elim held.held [
            | inl root ↦ absurd (some (sym is_top ∙ root))
            | inr has ↦ subst (HasDirectoryAt entries) is_top has
          ]
      by (inr (front, end, more)) =
          let is_front : held.directory ≡ top ++ n ∷ front =
          push_front held.directory (top ++ n ∷ front) held.name end
          (same ∙ ap (λ rest. top ++ n ∷ rest) more ∙ sym (append_assoc top (n ∷ front) (end ∷ []))) in
          elim held.held [
            | inl root ↦ absurd (not_empty top n front (sym is_front ∙ root))
            | inr has ↦
                let count = ap length more in
                let long = length-append front (end ∷ []) in
                higher front (omega (arith, count, long)) (subst (HasDirectoryAt entries) is_front has)
          ]

  above : (m : ℕ) (b : Bool) (top : List (List ℕ)) (n : List ℕ) (rest : List (List ℕ)) → length rest ≤ m → top ≢ []
      → Any (IsAt b (top ++ n ∷ rest)) entries → HasDirectoryAt entries top
  above zero b top n rest short some =
      above_held b top n rest some (λ front less has. absurd (omega (arith, less, short)))
  above (suc m) b top n rest short some =
      above_held b top n rest some (λ front less has. above m true top n front (omega (arith, less, short)) some has)

  pub HasDirectoryAt-above : (b : Bool) (top : List (List ℕ)) (n : List ℕ) (rest : List (List ℕ)) → top ≢ []
      → Any (IsAt b (top ++ n ∷ rest)) entries → HasDirectoryAt entries top
  HasDirectoryAt-above b top n rest = above (length rest) b top n rest (omega arith)

  -- an entry isn't where none leads, nor below it
  pub IsNoneAt-under : (cs : List Step) (b : Bool) (place top : List (List ℕ)) → IsNoneAt (entry_paths entries) cs
      → place_of cs ≡ Some top → top ≢ [] → Any (IsAt b place) entries → ¬ IsUnder place top
  IsNoneAt-under cs b place top none leads some at (below, is) = by below (subst (λ place. Any (IsAt b place) entries) is at)
    where
      by : (below : List (List ℕ)) → Any (IsAt b (top ++ below)) entries → ⊥
      by [] at = IsNoneAt-entry entries cs b (top ++ []) none (leads ∙ ap Some (sym (append-nil top))) at
      by (n ∷ rest) at = IsNoneAt-entry entries cs true top none leads (HasDirectoryAt-above b top n rest some at)

  -- an entry at a file, or below it, is at the file
  pub LeadsToFile-under : (cs : List Step) (b : Bool) (place : List (List ℕ)) (file : LeadsToFile entries cs)
      → Any (IsAt b place) entries → IsUnder place file.place → place ≡ file.place
  LeadsToFile-under cs b place file at (below, is) = by below is
    where
      by : (below : List (List ℕ)) → place ≡ file.place ++ below → place ≡ file.place
      by [] is = is ∙ append-nil file.place
      by (n ∷ rest) is =
          absurd (true≢false (IsAt-one true false file.place
          (HasDirectoryAt-above b file.place n rest (IsAt-some false file.place file.file)
          (subst (λ place. Any (IsAt b place) entries) is at)) file.file))
