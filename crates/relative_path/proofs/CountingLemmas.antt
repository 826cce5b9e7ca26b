-- Where the components of a text begin.
use Rattle.std.proofs.Common.{◌≡◌, ℕ, zero, suc, ◌+◌, ◌-◌, ◌*◌, ◌/◌, ◌%◌, ◌^◌, ◌<◌, ◌≤◌, Bool, true, false, not, ◌&&◌, cond, List, [], ◌∷◌, filter, map, get_or, take, drop, length, refl, sym, ap, ap₂, ◌∙◌, subst, arith, min, w64, ⊎_elim}
use Rattle.std.specs.Int.{bit_at, bit_not}
use Rattle.std.specs.Int.Bits.{bit_and}
use Rattle.std.specs.Int.RustNames.{count_ones}
use Rattle.std.specs.Simd.Lanes.{mask_l}
use Rattle.std.specs.List.{slice_split, onto_first}
use Rattle.std.proofs.lemmas.Bool.{cond-true, cond-false, cases_Bool}
use Rattle.std.proofs.lemmas.List.{drop_more, length-map}
use Rattle.std.proofs.lemmas.Nat.{and_le_l, ones_cat, ones-le, shr-shr, shr_below, shr_split}
use Rattle.std.proofs.lemmas.Nat.Bits.{bit_at_lowest, bit_at-suc, bit_at_and, bit_at_not}
use Rattle.relative_path.specs.Steps.{is_slash, is_not_empty, pieces, classed, components}
use Rattle.relative_path.specs.Counting.{begun, starts_from}
use Rattle.relative_path.proofs.SlashesLemmas.{mask_bound, mask_bit}

-- how many of the pieces after the first aren't empty
abbrev later : List (List ℕ) → ℕ
later [] = 0
later (p ∷ ps) = length (filter is_not_empty ps)

later-onto_first : (b : ℕ) (ps : List (List ℕ)) → later (onto_first b ps) ≡ later ps
later-onto_first b [] = refl
later-onto_first b (p ∷ ps) = refl

length-filter-onto_first : (b : ℕ) (ps : List (List ℕ))
    → length (filter is_not_empty (onto_first b ps)) ≡ 1 + later ps
length-filter-onto_first b [] = refl
length-filter-onto_first b (p ∷ ps) = omega arith

-- after a slash each non-empty piece begins; after another byte the first piece has already begun
begun-split : (bs : List ℕ)
    → (begun true bs ≡ length (filter is_not_empty (slice_split is_slash bs)))
    × (begun false bs ≡ later (slice_split is_slash bs))
begun-split [] = (refl, refl)
begun-split (b ∷ bs) =
    let more = begun-split bs in
    let split = slice_split is_slash bs in
    let filled : List (List ℕ) → ℕ = λ ps. length (filter is_not_empty ps) in
    ⊎_elim
    (λ e.
    let slashed = sym (cond-true (is_slash b) ([] ∷ split) (onto_first b split) e) in (
      cond-true (is_slash b) _ _ e ∙ more.0 ∙ ap filled slashed,
      cond-true (is_slash b) _ _ e ∙ more.0 ∙ ap later slashed,
    ))
    (λ e.
    let non_slash = sym (cond-false (is_slash b) ([] ∷ split) (onto_first b split) e) in
    let first = ap (λ n. 1 + n) more.1 ∙ sym (length-filter-onto_first b split) in (
      cond-false (is_slash b) _ _ e ∙ first ∙ ap filled non_slash,
      cond-false (is_slash b) _ _ e ∙ more.1 ∙ sym (later-onto_first b split) ∙ ap later non_slash,
    ))
    (cases_Bool (is_slash b))

pub begun-components : (bs : List ℕ) → begun true bs ≡ length (components bs)
unfolding components pieces
begun-components bs = (begun-split bs).0 ∙ sym (length-map (pieces bs) classed)

-- the components of a text: one at a non-slash first byte, and those that begin later
pub begun-start : (bytes : List ℕ) → 0 < length bytes
    → begun true bytes ≡ cond (not (is_slash (get_or bytes 0 0))) 1 0 + begun (is_slash (get_or bytes 0 0)) (drop 1 bytes)
begun-start [] some = absurd (omega arith)
begun-start (b ∷ bs) some = first (is_slash b) refl
  where
    first : (here : Bool) → is_slash b ≡ here → begun true (b ∷ bs) ≡ cond (not here) 1 0 + begun here bs
    first true is = omega (arith, cond-true (is_slash b) (begun true bs) (1 + begun false bs) is)
    first false is = cond-false (is_slash b) _ _ is

-- ---- counted by the bits of a block

-- a component begins there: the byte is no slash and follows a slash
abbrev begins_at : List ℕ → ℕ → Bool
begins_at bytes i = not (is_slash (get_or bytes i 0)) && is_slash (get_or bytes (i - 1) 0)

-- one more byte
begun-next : (after here : Bool) (b : ℕ) (bs : List ℕ) → is_slash b ≡ here
    → begun after (b ∷ bs) ≡ cond (not here && after) 1 0 + begun here bs
begun-next true true b bs is = omega (arith, cond-true (is_slash b) (begun true bs) (1 + begun false bs) is)
begun-next false true b bs is = omega (arith, cond-true (is_slash b) (begun true bs) (begun false bs) is)
begun-next true false b bs is = omega (arith, cond-false (is_slash b) (begun true bs) (1 + begun false bs) is)
begun-next false false b bs is = omega (arith, cond-false (is_slash b) (begun true bs) (begun false bs) is)

starts_from-more : (bytes : List ℕ) (i : ℕ) → i < length bytes
    → starts_from bytes i ≡ cond (begins_at bytes i) 1 0 + begun (is_slash (get_or bytes i 0)) (drop (i + 1) bytes)
starts_from-more bytes i inside =
    ap (begun (is_slash (get_or bytes (i - 1) 0))) (drop_more bytes i 0 inside)
    ∙ begun-next (is_slash (get_or bytes (i - 1) 0)) (is_slash (get_or bytes i 0)) (get_or bytes i 0) (drop (i + 1) bytes) refl

-- a number has as many bits set as its lowest bit and its half together
ones-halved : (n : ℕ) → count_ones n ≡ n % 2 + count_ones (n / 2)
unfolding count_ones
ones-halved n =
    let whole : count_ones (n / 2 * 2 + n % 2) ≡ count_ones (n / 2) + count_ones (n % 2) =
    ones_cat 1 (n / 2) (n % 2) (omega arith) in
    let split : n / 2 * 2 + n % 2 ≡ n = shr_split n 1 in
    omega (arith, ap count_ones split, whole, single (n % 2) (omega arith))
  where
    single : (r : ℕ) → r < 2 → count_ones r ≡ r
    single zero small = refl
    single (suc zero) small = refl
    single (suc (suc r)) small = absurd (omega (arith, small))

-- a number with a bit for each of some bytes, set where a component begins, counts the components
ones-begun : (bytes : List ℕ) (n mask i : ℕ) → i + n ≤ length bytes → mask < 2 ^ n
    → ((k : ℕ) → k < n → bit_at mask k ≡ cond (begins_at bytes (i + k)) 1 0)
    → count_ones mask + starts_from bytes (i + n) ≡ starts_from bytes i
unfolding count_ones
ones-begun bytes zero mask i inside bound bits =
    let empty : mask ≡ 0 = omega (arith, bound) in
    let none : count_ones 0 ≡ 0 = refl in
    let here : i + 0 ≡ i = omega arith in
    omega (arith, ap count_ones empty, none, ap (starts_from bytes) here)
ones-begun bytes (suc n) mask i inside bound bits =
    let count : suc n ≡ n + 1 = omega arith in
    let half : mask / 2 < 2 ^ n = shr_below mask n 1 (subst (λ k. mask < 2 ^ k) count bound) in
    let bits' : (k : ℕ) → k < n → bit_at (mask / 2) k ≡ cond (begins_at bytes (i + 1 + k)) 1 0 = λ k h.
    let at : i + suc k ≡ i + 1 + k = omega arith in
    sym (bit_at-suc mask k) ∙ bits (suc k) (omega (arith, h)) ∙ ap (λ j. cond (begins_at bytes j) 1 0) at in
    let rest = ones-begun bytes n (mask / 2) (i + 1) (omega (arith, inside)) half bits' in
    let start : i + 0 ≡ i = omega arith in
    let first : mask % 2 ≡ cond (begins_at bytes i) 1 0 =
    sym (bit_at_lowest mask) ∙ bits 0 (omega arith) ∙ ap (λ j. cond (begins_at bytes j) 1 0) start in
    let end : i + 1 + n ≡ i + suc n = omega arith in
    let next : i + 1 - 1 ≡ i = omega arith in
    let after = ap (λ j. begun (is_slash (get_or bytes j 0)) (drop (i + 1) bytes)) next in
    omega (arith, ones-halved mask, first, rest, ap (starts_from bytes) end, after, starts_from-more bytes i (omega (arith, inside)))

-- a byte that is no slash, and a slash before it, as bits
min_bits : (before here : Bool) → min (cond before 1 0) (1 - cond here 1 0) ≡ cond (not here && before) 1 0
min_bits true true = refl
min_bits true false = refl
min_bits false true = refl
min_bits false false = refl

-- the slashes of a block, and those of the block that begins one byte earlier
module _ (bytes : List ℕ) (start skipped : ℕ) (some : 0 < start) (inside : start + 16 ≤ length bytes)
    (few : skipped < 16) where
  abbrev slashes : ℕ → ℕ
  slashes at = mask_l (map is_slash (take 16 (drop at bytes)))

  abbrev both : ℕ
  both = bit_and (slashes (start - 1)) (bit_not w64 (slashes start))

  early : start - 1 + 16 ≤ length bytes
  early = omega (arith, inside)

  both_bits : (k : ℕ) → k < 16 - skipped
      → bit_at (both / 2 ^ skipped) k ≡ cond (begins_at bytes (start + skipped + k)) 1 0
  both_bits k h =
      let j : skipped + k < 16 = omega (arith, h, few) in
      let here : start + (skipped + k) ≡ start + skipped + k = omega arith in
      let before : start - 1 + (skipped + k) ≡ start + skipped + k - 1 = omega (arith, some) in
      let none = bit_at_not w64 (slashes start) (skipped + k) (omega (arith, mask_bound bytes start 16 inside)) (omega (arith, j)) in
      ap (λ n. n % 2) (shr-shr both skipped k) ∙ bit_at_and (slashes (start - 1)) (bit_not w64 (slashes start)) (skipped + k)
      ∙ ap₂ min (mask_bit bytes (start - 1) 16 early (skipped + k) j)
      (none ∙ ap (λ b. 1 - b) (mask_bit bytes start 16 inside (skipped + k) j))
      ∙ min_bits (is_slash (get_or bytes (start - 1 + (skipped + k)) 0)) (is_slash (get_or bytes (start + (skipped + k)) 0))
      ∙ ap₂ (λ p q. cond (not (is_slash (get_or bytes q 0)) && is_slash (get_or bytes p 0)) 1 0) before here

  both_small : both / 2 ^ skipped < 2 ^ (16 - skipped)
  both_small =
      let width : 16 ≡ 16 - skipped + skipped = omega (arith, few) in
      let less : both < 2 ^ 16 =
      omega (arith, and_le_l (slashes (start - 1)) (bit_not w64 (slashes start)), mask_bound bytes (start - 1) 16 early) in
      shr_below both (16 - skipped) skipped (subst (λ k. both < 2 ^ k) width less)

  -- the components that begin in the block, after its first bytes
  pub starts_from-block : count_ones (both / 2 ^ skipped) + starts_from bytes (start + 16) ≡ starts_from bytes (start + skipped)
  starts_from-block =
      let end : start + skipped + (16 - skipped) ≡ start + 16 = omega (arith, few) in
      let counted =
      ones-begun bytes (16 - skipped) (both / 2 ^ skipped) (start + skipped) (omega (arith, end, inside)) both_small both_bits in
      omega (arith, counted, ap (starts_from bytes) end)

  pub ones-block : count_ones (both / 2 ^ skipped) ≤ 16 - skipped
  ones-block = ones-le (16 - skipped) (both / 2 ^ skipped) both_small
