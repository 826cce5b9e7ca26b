-- The first byte of a class, and the mask of a block of bytes, which has a bit for each byte in the class.
use Rattle.std.proofs.Common.{◌≡◌, ◌≢◌, ◌<◌, ◌≤◌, ◌+◌, ◌%◌, ◌^◌, ℕ, suc, Bool, true, false, nat_eq, not, cond, ◌&&◌, List, [], ◌∷◌, Fits, map, take, length, get_or, sym, ap, ap₂, subst, ne_eqb, refl, ◌∙◌, arith, w8, w64, ⊎_elim, pow_mono}
use Rattle.std.proofs.lemmas.Bool.{agree_below, agree_below_at, cases_lt, eq-eqb}
use Rattle.std.proofs.lemmas.List.{length-map, take_all}
use Rattle.std.proofs.lemmas.List.Sums.{position_or_len_is, passes_at_first, fails_before_first, prefix_len-le-length}
use Rattle.std.proofs.lemmas.Nat.Bits.{bit_at-trailing_zeros, bit_at_above}
use Rattle.std.proofs.lemmas.Simd.{length-chunk, map-map, mask_l-lt, mask_l-mod, trailing_mask_l, none_from_empty_mask, run_in_chunk_fails, run_in_chunk_stops}
use Rattle.std.specs.Int.{trailing_zeros}
use Rattle.std.specs.List.{list_all, position_or_len}
use Rattle.std.specs.Simd.Lanes.{chunk, mask_l, top, Each1}

-- the first byte of a class comes no later than the end
pub position_le : (p : ℕ → Bool) (text : List ℕ) → position_or_len p text ≤ length text
position_le p text = prefix_len-le-length (λ b. not (p b)) text

pub position_is : (p : ℕ → Bool) (text : List ℕ) (n : ℕ) → n ≤ length text
    → ((k : ℕ) → k < n → p (get_or text k 0) ≡ false) → (n < length text → p (get_or text n 0) ≡ true)
    → n ≡ position_or_len p text
position_is p text n inside before at = sym (position_or_len_is p text n 0 inside before at)

-- no byte before the first one of a class is in the class
abbrev HasNone : (ℕ → Bool) → List ℕ → ℕ → Type 0
HasNone p text n = list_all (λ b. not (p b)) (take n text) ≡ true

list_all-before : (p : ℕ → Bool) (text : List ℕ) → HasNone p text (position_or_len p text)
list_all-before p [] = refl
list_all-before p (b ∷ bs) = of (p b) refl (list_all-before p bs) where
  of : (t : Bool) → p b ≡ t → HasNone p bs (position_or_len p bs)
      → HasNone p (b ∷ bs) (cond (not (p b)) (1 + position_or_len p bs) 0)
  of true is others = subst (λ t. HasNone p (b ∷ bs) (cond (not t) (1 + position_or_len p bs) 0)) (sym is) refl
  of false is others =
      let n = position_or_len p bs in
      let next : suc n ≡ 1 + n = omega arith in
      subst (λ t. HasNone p (b ∷ bs) (cond (not t) (1 + n) 0)) (sym is)
      (subst (HasNone p (b ∷ bs)) next (ap (λ t. not t && list_all (λ b. not (p b)) (take n bs)) is ∙ others))

pub list_all-take_before : (p : ℕ → Bool) (text : List ℕ) (n : ℕ) → n ≡ position_or_len p text
    → list_all (λ b. not (p b)) (take n text) ≡ true
list_all-take_before p text n is = subst (HasNone p text) (sym is) (list_all-before p text)

list_all-some : (p : ℕ → Bool) (text : List ℕ) → position_or_len p text < length text
    → list_all (λ b. not (p b)) text ≡ false
list_all-some p [] some = absurd (omega (arith, some))
list_all-some p (b ∷ bs) some = of (p b) refl (λ more. list_all-some p bs more) where
  of : (t : Bool) → p b ≡ t → (position_or_len p bs < length bs → list_all (λ b. not (p b)) bs ≡ false)
      → list_all (λ b. not (p b)) (b ∷ bs) ≡ false
  of true is others = ap (λ t. not t && list_all (λ b. not (p b)) bs) is
  of false is others =
      let later : position_or_len p (b ∷ bs) ≡ 1 + position_or_len p bs =
      ap (λ t. cond (not t) (1 + position_or_len p bs) 0) is in
      ap (λ t. not t && list_all (λ b. not (p b)) bs) is ∙ others (omega (arith, some, later))

-- no byte is in the class exactly if the first one of the class is the end
pub list_all-length : (p : ℕ → Bool) (text : List ℕ) (n : ℕ) → n ≡ position_or_len p text
    → nat_eq n (length text) ≡ list_all (λ b. not (p b)) text
list_all-length p text n is = ⊎_elim
    (λ some. ne_eqb n (length text) (λ e. absurd (omega (arith, some, e)))
    ∙ sym (list_all-some p text (omega (arith, some, is))))
    (λ none. let whole : n ≡ length text = omega (arith, none, is, position_le p text) in
    eq-eqb n (length text) whole
    ∙ sym (ap (list_all (λ b. not (p b))) (sym (take_all n text (omega (arith, whole)))) ∙ list_all-take_before p text n is))
    (cases_lt n (length text))

-- lanes that were computed from a block set the bits of a class, if they do so for each of the 256 bytes
same_tops : (f : ℕ → ℕ) (p : ℕ → Bool) → agree_below (λ b. top 7 (f b)) p 256 ≡ true → (block : List ℕ)
    → Each1 (Fits w8) block → map (λ b. top 7 (f b)) block ≡ map p block
same_tops f p same [] fit = refl
same_tops f p same (b ∷ bs) (fits, others) =
    ap₂ (λ t ts. t ∷ ts) (agree_below_at (λ b. top 7 (f b)) p 256 b same fits.fits) (same_tops f p same bs others)

pub mask-class : (f : ℕ → ℕ) (p : ℕ → Bool) (block lanes : List ℕ) → length block ≤ 64 → Each1 (Fits w8) block
    → lanes ≡ map f block → agree_below (λ b. top 7 (f b)) p 256 ≡ true
    → mask_l (map (top 7) lanes) % 2 ^ 64 ≡ mask_l (map p block)
mask-class f p block lanes few fit computed same =
    ap (λ ts. mask_l ts % 2 ^ 64)
    (ap (map (top 7)) computed ∙ map-map (top 7) f block ∙ same_tops f p same block fit)
    ∙ mask_l-mod (map p block) 64 (omega (arith, few, length-map block p))

module _ (p : ℕ → Bool) (text : List ℕ) (start width : ℕ) (inside : start + width ≤ length text)
    (before : start ≤ position_or_len p text) where
  abbrev mask : ℕ
  mask = mask_l (map p (chunk start width text))

  -- a block without a byte of the class
  pub before-block : mask ≡ 0 → start + width ≤ position_or_len p text
  before-block none =
      let n = position_or_len p text in
      ⊎_elim
      (λ early. let no = none_from_empty_mask p text start width 0 inside none n before early in
      let yes = passes_at_first p text 0 (omega (arith, early, inside)) in absurd (cc (no, yes)))
      (λ late. late)
      (cases_lt n (start + width))

  mask_bound : mask < 2 ^ width
  mask_bound =
      subst (λ n. mask < 2 ^ n) (length-map (chunk start width text) p ∙ length-chunk start width text inside)
      (mask_l-lt (map p (chunk start width text)))

  -- the lowest bit of a block is the first byte of the class
  pub before-bit : width ≤ 64 → mask ≢ 0 → start + trailing_zeros w64 mask ≡ position_or_len p text
  before-bit few some =
      let n = trailing_zeros w64 mask in
      let wide : mask < 2 ^ 64 = omega (arith, mask_bound, pow_mono few) in
      let lowest = bit_at-trailing_zeros w64 mask (omega (arith, some)) wide in
      let within : n < width =
      ⊎_elim (λ h. h) (λ h. absurd (omega (arith, lowest.1, bit_at_above mask width n mask_bound h))) (cases_lt n width) in
      let counted = trailing_mask_l p 64 (chunk start width text)
      (omega (arith, few, length-chunk start width text inside)) (omega (arith, some)) in
      sym (position_or_len_is p text (start + n) 0 (omega (arith, within, inside))
      (λ k h. ⊎_elim (λ early. fails_before_first p text k 0 (omega (arith, early, before)))
      (λ late. run_in_chunk_fails p text start width n 0 inside counted k late h)
      (cases_lt k start))
      (λ _. run_in_chunk_stops p text start width n 0 inside counted within))
