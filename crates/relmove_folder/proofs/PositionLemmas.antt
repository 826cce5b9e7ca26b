-- Lines and columns of a text: the place after a text by counts, and a text cut at its last line end.
use Rattle.std.proofs.Common.{◌≡◌, ◌<◌, ◌≤◌, ◌+◌, ◌-◌, ◌^◌, ◌∙◌, ℕ, suc, min, Bool, true, false, not, cond, ⊎_elim, List, [], ◌∷◌, ◌++◌, reverse, length, get_or, take, drop, count_by, slice_index, sym, ap, ap₂, refl, arith}
use Rattle.std.proofs.lemmas.Bool.{cases_lt, cond-true, not-true, not-false, not_from_true, not_from_false}
use Rattle.std.proofs.lemmas.List.{drop_more, get_or-drop, get_or-reverse, length-drop, length-reverse, take-append-drop, take_rest}
use Rattle.std.proofs.lemmas.List.Sums.{fold-append, prefix_len_passes, prefix_len_stops, suffix_len_is, suffix_len-le-length, sum_by-append, sum_by-cons}
use Rattle.std.proofs.lemmas.Simd.{chunk-drop}
use Rattle.std.specs.List.{after_last, suffix_len}
use Rattle.markdown_targets.specs.Classes.{begins_character}
use Rattle.relmove_folder.specs.Position.{after_byte, is_line_end, next, position_after}
use Rattle.relmove_folder.specs.declared.position.Position.{Position}

count_by-cons : (p : ℕ → Bool) (x : ℕ) (xs : List ℕ) (t : Bool) → p x ≡ t
    → count_by p (x ∷ xs) ≡ cond t 1 0 + count_by p xs
count_by-cons p x xs t is =
    sum_by-cons (λ y. cond (p y) 1 0) x xs ∙ ap (λ u. cond u 1 0 + count_by p xs) is

-- a text without a line end only adds columns
pub place_after_no_line_end : (text : List ℕ) (here : Position) → here.column < 2 ^ 64
    → count_by is_line_end text ≡ 0
    → position_after here text
    ≡ record { line = here.line; column = min (here.column + count_by begins_character text) (2 ^ 64 - 1) }
place_after_no_line_end [] here fits none =
    let same : here.column ≡ min (here.column + 0) (2 ^ 64 - 1) = omega (arith, fits) in
    ap (λ n. record { line = here.line; column = n }) same
place_after_no_line_end (b ∷ bs) here fits none =
    of (is_line_end b) (begins_character b) refl refl (place_after_no_line_end bs) where
      of : (ends first : Bool) → is_line_end b ≡ ends → begins_character b ≡ first
          → ((there : Position) → there.column < 2 ^ 64 → count_by is_line_end bs ≡ 0
          → position_after there bs
          ≡ record { line = there.line; column = min (there.column + count_by begins_character bs) (2 ^ 64 - 1) })
          → position_after (cond ends (record { line = next here.line; column = 1 })
          (cond first (record { line = here.line; column = next here.column }) here)) bs
          ≡ record { line = here.line; column = min (here.column + count_by begins_character (b ∷ bs)) (2 ^ 64 - 1) }
      of true first is _ _ = absurd (omega (arith, none, count_by-cons is_line_end b bs true is))
      of false true is first others =
          let rest : count_by is_line_end bs ≡ 0 = omega (arith, none, count_by-cons is_line_end b bs false is) in
          others (record { line = here.line; column = next here.column }) (omega (arith, fits)) rest
          ∙ ap (λ n. record { line = here.line; column = n })
          (omega (arith, fits, count_by-cons begins_character b bs true first))
      of false false is later others =
          let rest : count_by is_line_end bs ≡ 0 = omega (arith, none, count_by-cons is_line_end b bs false is) in
          others here fits rest
          ∙ ap (λ n. record { line = here.line; column = n })
          (omega (arith, fits, count_by-cons begins_character b bs false later))

-- each line end adds a line
line-position_after : (text : List ℕ) (here : Position) → here.line < 2 ^ 64
    → (position_after here text).line ≡ min (here.line + count_by is_line_end text) (2 ^ 64 - 1)
line-position_after [] here fits = omega (arith, fits)
line-position_after (b ∷ bs) here fits = of (is_line_end b) (begins_character b) refl (line-position_after bs) where
  of : (ends first : Bool) → is_line_end b ≡ ends
      → ((there : Position) → there.line < 2 ^ 64
      → (position_after there bs).line ≡ min (there.line + count_by is_line_end bs) (2 ^ 64 - 1))
      → (position_after (cond ends (record { line = next here.line; column = 1 })
      (cond first (record { line = here.line; column = next here.column }) here)) bs).line
      ≡ min (here.line + count_by is_line_end (b ∷ bs)) (2 ^ 64 - 1)
  of true _ is others =
      others (record { line = next here.line; column = 1 }) (omega (arith, fits))
      ∙ omega (arith, fits, count_by-cons is_line_end b bs true is)
  of false true is others =
      others (record { line = here.line; column = next here.column }) fits
      ∙ omega (arith, fits, count_by-cons is_line_end b bs false is)
  of false false is others = others here fits ∙ omega (arith, fits, count_by-cons is_line_end b bs false is)

count_by-zero : (p : ℕ → Bool) (xs : List ℕ) → ((k : ℕ) → k < length xs → p (get_or xs k 0) ≡ false)
    → count_by p xs ≡ 0
count_by-zero p [] none = refl
count_by-zero p (x ∷ xs) none =
    let others = count_by-zero p xs (λ k inside. none (suc k) (omega (arith, inside))) in
    omega (arith, others, count_by-cons p x xs false (none 0 (omega arith)))

-- what comes after the last element that passes has none that passes
count_by-after_last : (p : ℕ → Bool) (xs : List ℕ) → count_by p (after_last p xs) ≡ 0
count_by-after_last p xs =
    let fails : ℕ → Bool = λ x. not (p x) in
    let start = length xs - suffix_len fails xs in
    count_by-zero p (drop start xs) (λ k inside.
    let at = length xs - 1 - (start + k) in
    let within : start + k < length xs = omega (arith, inside, length-drop start xs) in
    let back : length xs - 1 - at ≡ start + k = omega (arith, within) in
    let found = prefix_len_passes fails (reverse xs) at 0
    (omega (arith, within, suffix_len-le-length fails xs)) in
    let same = get_or-reverse xs at 0 (omega (arith, within))
    ∙ ap (λ n. get_or xs n 0) back
    ∙ sym (get_or-drop start xs k 0) in
    ap p (sym same) ∙ not-true (p (get_or (reverse xs) at 0)) found)

-- a list with an element that passes, cut at the last such element
record CutAtLast (p : ℕ → Bool) (xs : List ℕ) : Type 0 where
  before : List ℕ
  last : ℕ
  passes : p last ≡ true
  whole : xs ≡ before ++ last ∷ after_last p xs

cut_at_last : (p : ℕ → Bool) (xs : List ℕ) → 0 < count_by p xs → CutAtLast p xs
cut_at_last p xs some =
    let fails : ℕ → Bool = λ x. not (p x) in
    let many = suffix_len fails xs in
    let start = length xs - many in
    let begins : 0 < start =
    ⊎_elim (λ h. h)
    (λ h. let none : start ≡ 0 = omega (arith, h) in
    absurd (omega (arith, some, count_by-after_last p xs, ap (λ n. count_by p (drop n xs)) none)))
    (cases_lt 0 start) in
    let within : many < length (reverse xs) = omega (arith, begins, length-reverse xs) in
    let back : length xs - 1 - many ≡ start - 1 = omega (arith, begins) in
    let same = get_or-reverse xs many 0 (omega (arith, begins)) ∙ ap (λ n. get_or xs n 0) back in
    record {
      before = take (start - 1) xs;
      last = get_or xs (start - 1) 0;
      passes =
          ap p (sym same)
          ∙ not-false (p (get_or (reverse xs) many 0)) (prefix_len_stops fails (reverse xs) 0 within);
      whole =
          let rest : start - 1 + 1 ≡ start = omega (arith, begins) in
          sym (take-append-drop (start - 1) xs)
          ∙ ap (λ more. take (start - 1) xs ++ more)
          (drop_more xs (start - 1) 0 (omega (arith, begins))
          ∙ ap (λ n. get_or xs (start - 1) 0 ∷ drop n xs) rest);
    }

-- a text with a line end adds lines, and columns begin anew after the last line end
pub place_after_line_ends : (text : List ℕ) (here : Position) → here.line < 2 ^ 64
    → 0 < count_by is_line_end text
    → position_after here text
    ≡ record {
      line = min (here.line + count_by is_line_end text) (2 ^ 64 - 1);
      column = min (count_by begins_character (after_last is_line_end text) + 1) (2 ^ 64 - 1);
    }
place_after_line_ends text here fits some =
    let cut = cut_at_last is_line_end text some in
    let rest = after_last is_line_end text in
    let none : count_by is_line_end rest ≡ 0 = count_by-after_last is_line_end text in
    let there = position_after here cut.before in
    let begins : Position = record { line = next there.line; column = 1 } in
    let lines = ap (count_by is_line_end) cut.whole
    ∙ sum_by-append (λ b. cond (is_line_end b) 1 0) cut.before (cut.last ∷ rest) in
    ap (position_after here) cut.whole
    ∙ fold-append after_byte here cut.before (cut.last ∷ rest)
    ∙ ap (λ place. position_after place rest) (cond-true (is_line_end cut.last) begins _ cut.passes)
    ∙ place_after_no_line_end rest begins (omega arith) none
    ∙ ap₂ (λ (line column : ℕ). record { line = line; column = column })
    (omega (
      arith,
      fits,
      none,
      lines,
      line-position_after cut.before here fits,
      count_by-cons is_line_end cut.last rest true cut.passes,
    ))
    (omega arith)

-- a block and what comes after it
pub count_by-drop : (p : ℕ → Bool) (xs : List ℕ) (start width : ℕ)
    → count_by p (drop start xs) ≡ count_by p (take width (drop start xs)) + count_by p (drop (start + width) xs)
count_by-drop p xs start width =
    ap (count_by p) (chunk-drop start width xs)
    ∙ sum_by-append (λ x. cond (p x) 1 0) (take width (drop start xs)) (drop (start + width) xs)

-- what comes after a place from which on no element passes, and before which one does
pub after_last_is : (p : ℕ → Bool) (xs : List ℕ) (start : ℕ) → start ≤ length xs
    → ((k : ℕ) → start ≤ k → k < length xs → p (slice_index xs k) ≡ false)
    → (0 < start → p (slice_index xs (start - 1)) ≡ true)
    → take (length xs - start) (drop start xs) ≡ after_last p xs
after_last_is p xs start within none some =
    let fails : ℕ → Bool = λ x. not (p x) in
    let many = suffix_len_is fails xs start 0 within
    (λ k from inside. not_from_false (p (get_or xs k 0)) (none k from inside))
    (λ begins. not_from_true (p (get_or xs (start - 1) 0)) (some begins)) in
    let same : start ≡ length xs - suffix_len fails xs = omega (arith, within, many) in
    take_rest xs start ∙ ap (λ n. drop n xs) same
