-- What a binary search finds in a table.
use Rattle.std.proofs.Common.{◌≡◌, ℕ, zero, suc, ◌+◌, ◌-◌, ◌<◌, ◌≤◌, Bool, true, false, ◌&&◌, ◌==◌, nat_le, cond, List, [], ◌∷◌, map, length, get_or, take, drop, Some, None, refl, sym, ap, ◌∙◌, arith, subst, ◌⊎◌, inl, inr}
use mathlib.Core.Bool.{true≢false}
use Rattle.std.specs.Cmp.Lexicographic.{slice_cmp}
use Rattle.std.specs.Map.{lookup}
use Rattle.std.specs.Ordering.{nat_cmp, is_lt, is_eq, ordering_reverse}
use Rattle.std.specs.Str.{bytes_eq}
use Rattle.std.specs.declared.cmp.Ordering.{Ordering}
use Rattle.std.specs.declared.cmp.Ordering.TheVariants.{Less, Equal, Greater}
use Rattle.std.proofs.lemmas.Bool.{and_parts, cases_lt}
use Rattle.std.proofs.lemmas.Bool.Decides.{nat_tests}
use Rattle.std.proofs.lemmas.Cmp.{nat_list_cmp_total}
use Rattle.std.proofs.lemmas.List.{drop-drop}
use Rattle.std.proofs.lemmas.List.Folds.{list_all_at}
use Rattle.std.proofs.lemmas.Map.Lookups.{exact_bytes}
use Rattle.std.proofs.lemmas.Map.Text.{is_eq-slice_cmp}
use Rattle.character_names.specs.declared.characters.Characters.{Characters}
use Rattle.character_names.specs.declared.characters.Characters.TheVariants.{One}
use Rattle.character_names.specs.Names.{characters_at, rows_from, characters_in, ascend, rise, all_within, is_table}

abbrev Row : Type 0
Row = List ℕ × Characters

abbrev no_row : Row
no_row = ([], One 0)

-- ---- a name among rows

module _ (name : List ℕ) where
  -- no row has the name
  lookup-none : (xs : List Row) → ((k : ℕ) → k < length xs → bytes_eq (get_or xs k no_row).0 name ≡ false)
      → lookup (λ k. bytes_eq k name) xs ≡ None
  lookup-none [] none = refl
  lookup-none (x ∷ xs) none =
      ap (λ t. cond t (Some x.1) (lookup (λ k. bytes_eq k name) xs)) (none 0 (omega arith))
      ∙ lookup-none xs (λ k inside. none (suc k) (omega (arith, inside)))

  -- a row has the name, and none before it
  lookup-first : (xs : List Row) (i : ℕ) → i < length xs → bytes_eq (get_or xs i no_row).0 name ≡ true
      → ((k : ℕ) → k < i → bytes_eq (get_or xs k no_row).0 name ≡ false)
      → lookup (λ k. bytes_eq k name) xs ≡ Some (get_or xs i no_row).1
  lookup-first [] i inside is none = absurd (omega (arith, inside))
  lookup-first (x ∷ xs) zero inside is none = ap (λ t. cond t (Some x.1) (lookup (λ k. bytes_eq k name) xs)) is
  lookup-first (x ∷ xs) (suc i) inside is none =
      ap (λ t. cond t (Some x.1) (lookup (λ k. bytes_eq k name) xs)) (none 0 (omega arith))
      ∙ lookup-first xs i (omega (arith, inside)) is (λ k before. none (suc k) (omega (arith, before)))

-- ---- rows that ascend

-- how the name of a row compares with a name
abbrev pub compared : List Row → ℕ → List ℕ → Ordering
compared xs k name = slice_cmp nat_cmp (get_or xs k no_row).0 name

less : (r : Ordering) → is_lt r ≡ true → r ≡ Less
less Less is = refl
less Equal is = absurd (cc)
less Greater is = absurd (cc)

-- a row is below each later one
below : (xs : List Row) (j i : ℕ) → ascend (map (λ row. row.0) xs) ≡ true → j < i → i < length xs
    → compared xs j (get_or xs i no_row).0 ≡ Less
unfolding ascend
below [] j i up before inside = absurd (omega (arith, inside))
below (x ∷ []) j i up before inside = absurd (omega (arith, before, inside))
below (x ∷ y ∷ ys) j zero up before inside = absurd (omega (arith, before))
below (x ∷ y ∷ ys) zero (suc zero) up before inside =
    less (slice_cmp nat_cmp x.0 y.0)
    (and_parts (is_lt (slice_cmp nat_cmp x.0 y.0)) (ascend (map (λ row. row.0) (y ∷ ys))) up).0
below (x ∷ y ∷ ys) zero (suc (suc i)) up before inside =
    let (first, rest) = and_parts (is_lt (slice_cmp nat_cmp x.0 y.0)) (ascend (map (λ row. row.0) (y ∷ ys))) up in
    nat_list_cmp_total.trans x.0 y.0 (get_or (y ∷ ys) (suc i) no_row).0 (less (slice_cmp nat_cmp x.0 y.0) first)
    (below (y ∷ ys) zero (suc i) rest (omega arith) (omega (arith, inside)))
below (x ∷ y ∷ ys) (suc j) (suc i) up before inside =
    below (y ∷ ys) j i (and_parts (is_lt (slice_cmp nat_cmp x.0 y.0)) (ascend (map (λ row. row.0) (y ∷ ys))) up).1
    (omega (arith, before)) (omega (arith, inside))

-- the rows up to one whose name is less
less-before : (xs : List Row) (name : List ℕ) (mid : ℕ) → ascend (map (λ row. row.0) xs) ≡ true → mid < length xs
    → compared xs mid name ≡ Less → (k : ℕ) → k < mid + 1 → compared xs k name ≡ Less
less-before xs name mid up inside is k before = of (cases_lt k mid) where
  of : (k < mid) ⊎ (mid ≤ k) → compared xs k name ≡ Less
  of (inl earlier) =
      nat_list_cmp_total.trans (get_or xs k no_row).0 (get_or xs mid no_row).0 name (below xs k mid up earlier inside) is
  of (inr later) =
      let same : mid ≡ k = omega (arith, later, before) in
      subst (λ i. compared xs i name ≡ Less) same is

-- the rows from one on whose name is greater
greater-after : (xs : List Row) (name : List ℕ) (mid : ℕ) → ascend (map (λ row. row.0) xs) ≡ true
    → compared xs mid name ≡ Greater → (k : ℕ) → mid ≤ k → k < length xs → compared xs k name ≡ Greater
greater-after xs name mid up is k after inside = of (cases_lt mid k) where
  of : (mid < k) ⊎ (k ≤ mid) → compared xs k name ≡ Greater
  of (inl later) =
      let key = (get_or xs mid no_row).0 in
      let first : slice_cmp nat_cmp name key ≡ Less =
      nat_list_cmp_total.antisymm name key ∙ ap ordering_reverse is in
      nat_list_cmp_total.antisymm (get_or xs k no_row).0 name
      ∙ ap ordering_reverse
      (nat_list_cmp_total.trans name key (get_or xs k no_row).0 first (below xs mid k up later inside))
  of (inr earlier) =
      let same : mid ≡ k = omega (arith, earlier, after) in
      subst (λ i. compared xs i name ≡ Greater) same is

characters_in-found : (xs : List Row) (name : List ℕ) (i : ℕ) → ascend (map (λ row. row.0) xs) ≡ true → i < length xs
    → compared xs i name ≡ Equal → characters_in xs name ≡ Some (get_or xs i no_row).1
unfolding characters_in
characters_in-found xs name i up inside at =
    let key = (get_or xs i no_row).0 in
    let same = exact_bytes key name at in
    lookup-first name xs i inside (sym (is_eq-slice_cmp key name) ∙ ap is_eq at)
    (λ k before. sym (is_eq-slice_cmp (get_or xs k no_row).0 name)
    ∙ ap is_eq (subst (λ n. compared xs k n ≡ Less) same (below xs k i up before inside)))

characters_in-missed : (xs : List Row) (name : List ℕ) (i : ℕ) → ((k : ℕ) → k < i → compared xs k name ≡ Less)
    → ((k : ℕ) → i ≤ k → k < length xs → compared xs k name ≡ Greater) → characters_in xs name ≡ None
unfolding characters_in
characters_in-missed xs name i before after = lookup-none name xs (λ k inside. of k (cases_lt k i) inside) where
  of : (k : ℕ) → (k < i) ⊎ (i ≤ k) → k < length xs → bytes_eq (get_or xs k no_row).0 name ≡ false
  of k (inl earlier) inside = sym (is_eq-slice_cmp (get_or xs k no_row).0 name) ∙ ap is_eq (before k earlier)
  of k (inr later) inside = sym (is_eq-slice_cmp (get_or xs k no_row).0 name) ∙ ap is_eq (after k later inside)

-- ---- the rows of a table

le-true : (m n : ℕ) → nat_le m n ≡ true → m ≤ n
le-true m n is = grind (arith, nat_tests)

-- a bound isn't above the next
rise-next : (ns : List ℕ) (i : ℕ) → rise ns ≡ true → i + 1 < length ns → get_or ns i 0 ≤ get_or ns (i + 1) 0
unfolding rise
rise-next [] i up inside = absurd (omega (arith, inside))
rise-next (m ∷ []) i up inside = absurd (omega (arith, inside))
rise-next (m ∷ n ∷ ns) zero up inside = le-true m n (and_parts (nat_le m n) (rise (n ∷ ns)) up).0
rise-next (m ∷ n ∷ ns) (suc i) up inside =
    let rest = rise-next (n ∷ ns) i (and_parts (nat_le m n) (rise (n ∷ ns)) up).1 (omega (arith, inside)) in
    let at : suc i + 1 ≡ suc (i + 1) = omega arith in
    subst (λ k. get_or (m ∷ n ∷ ns) (suc i) 0 ≤ get_or (m ∷ n ∷ ns) k 0) (sym at) rest

rise-rest : (m n : ℕ) (ns : List ℕ) → rise (m ∷ n ∷ ns) ≡ true → rise (n ∷ ns) ≡ true
unfolding rise
rise-rest m n ns up = (and_parts (nat_le m n) (rise (n ∷ ns)) up).1

-- a number above the limit
all_within-not : (most : ℕ) (ns : List ℕ) (i : ℕ) → i < length ns → nat_le (get_or ns i 0) most ≡ false
    → all_within most ns ≡ false
unfolding all_within
all_within-not most ns i inside above = list_all_at (λ n. nat_le n most) ns i 0 inside above

-- the first bound isn't above another
rise-first : (ns : List ℕ) (i : ℕ) → rise ns ≡ true → i < length ns → get_or ns 0 0 ≤ get_or ns i 0
rise-first ns zero up inside = omega arith
rise-first ns (suc i) up inside =
    let before = rise-first ns i up (omega (arith, inside)) in
    let at : i + 1 ≡ suc i = omega arith in
    let next = subst (λ k. get_or ns i 0 ≤ get_or ns k 0) at (rise-next ns i up (omega (arith, inside))) in
    omega (arith, before, next)

length-rows : (bounds text : List ℕ) (pairs : List (ℕ × ℕ)) → length bounds ≡ length pairs + 1
    → length (rows_from bounds text pairs) ≡ length pairs
unfolding rows_from
length-rows [] text pairs many = absurd (omega (arith, many))
length-rows (start ∷ []) text [] many = refl
length-rows (start ∷ []) text (pair ∷ pairs) many = absurd (omega (arith, many))
length-rows (start ∷ end ∷ bounds) text [] many = refl
length-rows (start ∷ end ∷ bounds) text (pair ∷ pairs) many =
    let rest = length-rows (end ∷ bounds) (drop (end - start) text) pairs (omega (arith, many)) in
    omega (arith, rest)

-- a row of a table whose text is what is left from its first bound on
row_at : (bounds text : List ℕ) (pairs : List (ℕ × ℕ)) (i : ℕ) → rise bounds ≡ true → i + 1 < length bounds
    → i < length pairs
    → get_or (rows_from bounds text pairs) i no_row
    ≡ (
      take (get_or bounds (i + 1) 0 - get_or bounds i 0) (drop (get_or bounds i 0 - get_or bounds 0 0) text),
      characters_at (get_or pairs i (0, 0)),
    )
unfolding rows_from
row_at [] text pairs i up within inside = absurd (omega (arith, within))
row_at (start ∷ []) text pairs i up within inside = absurd (omega (arith, within))
row_at (start ∷ end ∷ bounds) text [] i up within inside = absurd (omega (arith, inside))
row_at (start ∷ end ∷ bounds) text (pair ∷ pairs) zero up within inside =
    let none : 0 ≡ start - start = omega arith in
    ap (λ k. (take (end - start) (drop k text), characters_at pair)) none
row_at (start ∷ end ∷ bounds) text (pair ∷ pairs) (suc i) up within inside =
    let first = rise-next (start ∷ end ∷ bounds) 0 up (omega arith) in
    let rest = rise-rest start end bounds up in
    let later = rise-first (end ∷ bounds) i rest (omega (arith, within)) in
    let left = row_at (end ∷ bounds) (drop (end - start) text) pairs i rest (omega (arith, within)) (omega (arith, inside)) in
    let skipped : (end - start) + (get_or (end ∷ bounds) i 0 - end) ≡ get_or (end ∷ bounds) i 0 - start =
    omega (arith, first, later) in
    let next : suc i + 1 ≡ suc (i + 1) = omega arith in
    left
    ∙ ap (λ t. (take (get_or (end ∷ bounds) (i + 1) 0 - get_or (end ∷ bounds) i 0) t, characters_at (get_or pairs i (0, 0))))
    (drop-drop (get_or (end ∷ bounds) i 0 - end) (end - start) text ∙ ap (λ k. drop k text) skipped)
    ∙ ap (λ k. (
      take (get_or (start ∷ end ∷ bounds) k 0 - get_or (end ∷ bounds) i 0)
          (drop (get_or (end ∷ bounds) i 0 - start) text),
      characters_at (get_or pairs i (0, 0)),
    )) (sym next)

-- ---- what a table has

module _ (bounds text : List ℕ) (pairs : List (ℕ × ℕ)) (is : is_table bounds text pairs ≡ true) where
  abbrev first_zero : Bool
  first_zero = get_or bounds 0 0 == 0

  abbrev one_each : Bool
  one_each = length bounds == length pairs + 1

  abbrev in_text : Bool
  in_text = all_within (length text) bounds

  abbrev in_order : Bool
  in_order = ascend (map (λ row. row.0) (rows_from bounds text pairs))

  -- the parts of the test
  parts : (first_zero ≡ true) × (one_each ≡ true) × (rise bounds ≡ true) × (in_text ≡ true) × (in_order ≡ true)
  unfolding is_table
  parts =
      let (first, after_first) = and_parts first_zero (one_each && (rise bounds && (in_text && in_order))) is in
      let (one, after_one) = and_parts one_each (rise bounds && (in_text && in_order)) after_first in
      let (up, after_up) = and_parts (rise bounds) (in_text && in_order) after_one in
      let (within, ordered) = and_parts in_text in_order after_up in
      (first, one, up, within, ordered)

  counted : length bounds ≡ length pairs + 1
  counted = let many = parts.1 in grind (arith, nat_tests, many)

  ascending : ascend (map (λ row. row.0) (rows_from bounds text pairs)) ≡ true
  ascending = parts.4

  counted_rows : length (rows_from bounds text pairs) ≡ length pairs
  counted_rows = length-rows bounds text pairs counted

  pub inside : (i : ℕ) → i < length pairs → i + 1 < length bounds
  inside i at = omega (arith, at, counted)

  pub order : (i : ℕ) → i < length pairs → get_or bounds i 0 ≤ get_or bounds (i + 1) 0
  order i at = rise-next bounds i parts.2 (inside i at)

  pub within : (i : ℕ) → i < length pairs → get_or bounds (i + 1) 0 ≤ length text
  within i at = of (nat_le (get_or bounds (i + 1) 0) (length text)) refl where
    of : (t : Bool) → nat_le (get_or bounds (i + 1) 0) (length text) ≡ t → get_or bounds (i + 1) 0 ≤ length text
    of true le = le-true (get_or bounds (i + 1) 0) (length text) le
    of false above =
        let none = all_within-not (length text) bounds (i + 1) (inside i at) above in
        absurd (true≢false (sym parts.3 ∙ none))

  -- the name and the characters of a row
  row : (i : ℕ) → i < length pairs → get_or (rows_from bounds text pairs) i no_row
      ≡ (take (get_or bounds (i + 1) 0 - get_or bounds i 0) (drop (get_or bounds i 0) text), characters_at (get_or pairs i (0, 0)))
  row i at =
      let zero_first : get_or bounds 0 0 ≡ 0 = let first = parts.0 in grind (arith, nat_tests, first) in
      let start : get_or bounds i 0 - get_or bounds 0 0 ≡ get_or bounds i 0 = omega (arith, zero_first) in
      row_at bounds text pairs i parts.2 (inside i at) at
      ∙ ap (λ k. (take (get_or bounds (i + 1) 0 - get_or bounds i 0) (drop k text), characters_at (get_or pairs i (0, 0)))) start

  -- ---- the steps of a search, by how the name of the row in the middle compares

  module _ (name key : List ℕ) (mid : ℕ) (at : mid < length pairs)
      (read : key ≡ take (get_or bounds (mid + 1) 0 - get_or bounds mid 0) (drop (get_or bounds mid 0) text)) where
    same_key : key ≡ (get_or (rows_from bounds text pairs) mid no_row).0
    same_key = read ∙ ap (λ r. r.0) (sym (row mid at))

    here : (r : Ordering) → r ≡ slice_cmp nat_cmp key name → compared (rows_from bounds text pairs) mid name ≡ r
    here r is = ap (λ k. slice_cmp nat_cmp k name) (sym same_key) ∙ sym is

    mid_inside : mid < length (rows_from bounds text pairs)
    mid_inside = let many = counted_rows in omega (arith, at, many)

    pub step-less : Less ≡ slice_cmp nat_cmp key name
        → (k : ℕ) → k < mid + 1 → compared (rows_from bounds text pairs) k name ≡ Less
    step-less is = less-before (rows_from bounds text pairs) name mid ascending mid_inside (here Less is)

    pub step-greater : Greater ≡ slice_cmp nat_cmp key name
        → (k : ℕ) → mid ≤ k → k < length pairs → compared (rows_from bounds text pairs) k name ≡ Greater
    step-greater is k after inside =
        let many = counted_rows in
        greater-after (rows_from bounds text pairs) name mid ascending (here Greater is) k after (omega (arith, inside, many))

    pub step-equal : Equal ≡ slice_cmp nat_cmp key name
        → Some (characters_at (get_or pairs mid (0, 0))) ≡ characters_in (rows_from bounds text pairs) name
    step-equal is =
        ap (λ r. Some r.1) (sym (row mid at))
        ∙ sym (characters_in-found (rows_from bounds text pairs) name mid ascending mid_inside (here Equal is))

  pub search-end : (name : List ℕ) (low high : ℕ) → high ≤ low
      → ((k : ℕ) → k < low → compared (rows_from bounds text pairs) k name ≡ Less)
      → ((k : ℕ) → high ≤ k → k < length pairs → compared (rows_from bounds text pairs) k name ≡ Greater)
      → None ≡ characters_in (rows_from bounds text pairs) name
  search-end name low high ended before after =
      sym (characters_in-missed (rows_from bounds text pairs) name low before
      (λ k later inside. after k (omega (arith, ended, later)) (let many = counted_rows in omega (arith, inside, many))))
