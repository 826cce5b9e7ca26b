-- What a mask of slashes tells of the first piece of a text, and how a mask is made.
use Rattle.std.proofs.Common.{◌≡◌, ◌≢◌, ◌<◌, ◌≤◌, ◌+◌, ◌-◌, ◌*◌, ◌/◌, ◌%◌, ◌^◌, ℕ, suc, cond, List, Bool, true, false, ◌∷◌, length, map, take, drop, get_or, get_or-drop, bit_or, refl, sym, subst, ap, ap₂, ◌∙◌, arith, max, pow_mono, ⊎_elim, w64}
use Rattle.std.proofs.Math.Nat.{pow-suc, le-div_iff_mul-le, mul-lt-mul_of_pos_right, div-one}
use Rattle.std.specs.Int.{bit_at, trailing_zeros}
use Rattle.std.specs.List.{position_or_len}
use Rattle.std.specs.Simd.Lanes.{mask_l}
use Rattle.std.proofs.lemmas.Bool.{cases_lt}
use Rattle.std.proofs.lemmas.List.{get_or_default, get_or_past, drop_more}
use Rattle.std.proofs.lemmas.List.Sums.{position_or_len_is}
use Rattle.std.proofs.lemmas.Nat.{shr_split, mod_below, pow_pos, pow-add, or_lt, shl_whole, one_shl, le_or_r}
use Rattle.std.proofs.lemmas.Nat.Bits.{bit_at-suc, bit_at-zero, bit_at_or, bit_at-trailing_zeros, bit_at_above, bit_at_cat_low, bit_at_cat_high, bit_at_set_same, bit_at_set_other}
use Rattle.std.specs.Str.{IsUtf8, IsCharBoundary}
use Rattle.std.proofs.lemmas.Str.{IsCharBoundary-after_ascii}
use Rattle.relative_path.specs.Steps.{slash, is_slash, components}
use Rattle.relative_path.proofs.StepsLemmas.{components-slash}
use Rattle.relative_path.specs.Masked.{KnowsSlashes}
use Rattle.relative_path.proofs.SlashesLemmas.{mask_bound, mask_bit}

-- ---- bits

-- a bit of what is left after a shift
bit_at-shift : (m n k : ℕ) → bit_at (m / 2 ^ n) k ≡ bit_at m (n + k)
bit_at-shift m n k =
    let back : n + k - n ≡ k = omega arith in
    sym (ap (λ x. bit_at x (n + k)) (sym (shr_split m n))
    ∙ bit_at_cat_high (m / 2 ^ n) n (m % 2 ^ n) (n + k) (mod_below m (2 ^ n) (pow_pos n)) (omega arith)
    ∙ ap (bit_at (m / 2 ^ n)) back)

true_from_bit : (b : Bool) → cond {A = ℕ} b 1 0 ≡ 1 → b ≡ true
true_from_bit true e = refl
true_from_bit false e = absurd (omega (arith, e))

false_from_bit : (b : Bool) → cond {A = ℕ} b 1 0 ≡ 0 → b ≡ false
false_from_bit true e = absurd (omega (arith, e))
false_from_bit false e = refl

max_same : (b : Bool) → max (cond b 1 0) (cond b 1 0) ≡ cond {A = ℕ} b 1 0
max_same true = refl
max_same false = refl

max_left : (b : Bool) → max (cond b 1 0) 0 ≡ cond {A = ℕ} b 1 0
max_left true = refl
max_left false = refl

max_right : (b : Bool) → max 0 (cond b 1 0) ≡ cond {A = ℕ} b 1 0
max_right true = refl
max_right false = refl

-- a number has no power of two above its highest bit
exponent-lt : (m n k : ℕ) → m < 2 ^ n → 2 ^ k ≤ m → k < n
exponent-lt m n k most least =
    ⊎_elim (λ h. h) (λ h. absurd (omega (arith, most, least, pow_mono h))) (cases_lt k n)

-- ---- the first piece

-- the lowest bit is the first slash, or the end
pub trailing_zeros-KnowsSlashes : (mask : ℕ) (text : List ℕ) → KnowsSlashes mask text → mask ≢ 0 → mask < 2 ^ 64
    → trailing_zeros w64 mask ≡ position_or_len is_slash text
trailing_zeros-KnowsSlashes mask text known some fits =
    let n = trailing_zeros w64 mask in
    let lowest = bit_at-trailing_zeros w64 mask (omega (arith, some)) fits in
    let least : 2 ^ n ≤ mask =
    ⊎_elim (λ h. absurd (omega (arith, lowest.1, bit_at_above mask n n h (omega arith)))) (λ h. h) (cases_lt mask (2 ^ n)) in
    let at : is_slash (get_or text n slash) ≡ true = true_from_bit _ (sym (known n least) ∙ lowest.1) in
    let before : (k : ℕ) → k < n → is_slash (get_or text k slash) ≡ false =
    λ k h. let under : k ≤ n = omega (arith, h) in
    false_from_bit _ (sym (known k (omega (arith, least, pow_mono under))) ∙ lowest.2 k h) in
    let inside : n ≤ length text =
    ⊎_elim
    (λ h. absurd (cc (before (length text) h, ap is_slash (get_or_past text (length text) slash (omega arith)))))
    (λ h. h)
    (cases_lt (length text) n) in
    sym (position_or_len_is is_slash text n slash inside before (λ _. at))

-- what is known of the bytes after a byte
pub KnowsSlashes-after : (mask n : ℕ) (text : List ℕ) → KnowsSlashes mask text
    → KnowsSlashes (mask / 2 ^ n / 2) (drop (n + 1) text)
KnowsSlashes-after mask n text known k least =
    let once : 2 ^ k * 2 ≤ mask / 2 ^ n = (le-div_iff_mul-le {k = 2} (omega arith)).0 least in
    let twice : 2 ^ k * 2 * 2 ^ n ≤ mask = (le-div_iff_mul-le {k = 2 ^ n} (pow_pos n)).0 once in
    let power : 2 ^ (suc k + n) ≡ 2 ^ k * 2 * 2 ^ n = pow-add 2 (suc k) n ∙ ap (λ x. x * 2 ^ n) (pow-suc 2 k) in
    let order : suc k + n ≡ n + 1 + k = omega arith in
    let order' : n + suc k ≡ n + 1 + k = omega arith in
    let whole : 2 ^ (n + 1 + k) ≤ mask = subst (λ i. 2 ^ i ≤ mask) order (omega (arith, power, twice)) in
    sym (bit_at-suc (mask / 2 ^ n) k) ∙ bit_at-shift mask n (suc k) ∙ ap (bit_at mask) order' ∙ known (n + 1 + k) whole
    ∙ sym (ap (λ b. cond (is_slash b) 1 0) (get_or-drop (n + 1) text k slash))

-- a text that begins with a slash is that slash and the rest
pub some_from_slash : (text : List ℕ) → get_or text 0 0 ≡ slash → 0 < length text
some_from_slash text at =
    ⊎_elim (λ h. h) (λ h. absurd (omega (arith, at, get_or_past text 0 0 (omega (arith, h))))) (cases_lt 0 (length text))

pub components-drop_slash : (text : List ℕ) → get_or text 0 0 ≡ slash → components (drop 1 text) ≡ components text
components-drop_slash text at =
    let joined : text ≡ slash ∷ drop 1 text =
    drop_more text 0 0 (some_from_slash text at) ∙ ap (λ b. b ∷ drop 1 text) at in
    sym (components-slash (drop 1 text)) ∙ sym (ap components joined)

pub IsCharBoundary_after_slash : (text : List ℕ) → IsUtf8 text → get_or text 0 0 ≡ slash → IsCharBoundary text 1
IsCharBoundary_after_slash text utf8 at =
    IsCharBoundary-after_ascii text 0 utf8 (some_from_slash text at) (omega (arith, at))

pub KnowsSlashes-drop_slash : (mask : ℕ) (text : List ℕ) → KnowsSlashes mask text → KnowsSlashes (mask / 2) (drop 1 text)
KnowsSlashes-drop_slash mask text known =
    let whole : mask / 2 ^ 0 ≡ mask = div-one mask in
    subst (λ m. KnowsSlashes (m / 2) (drop 1 text)) whole (KnowsSlashes-after mask 0 text known)

-- ---- how a mask is made

abbrev block : List ℕ → ℕ → ℕ → ℕ
block text start width = mask_l (map is_slash (take width (drop start text)))

-- the bit that says whether a byte is a slash
abbrev said : List ℕ → ℕ → ℕ
said text k = cond (is_slash (get_or text k 0)) 1 0

said-inside : (text : List ℕ) (k : ℕ) → k < length text → said text k ≡ cond (is_slash (get_or text k slash)) 1 0
said-inside text k h = ap {B = ℕ} (λ b. cond (is_slash b) 1 0) (get_or_default text k 0 slash h)

block-lt : (text : List ℕ) (width : ℕ) → width ≤ length text → block text 0 width < 2 ^ width
block-lt text width inside = mask_bound text 0 width (omega (arith, inside))

bit_at-block : (text : List ℕ) (width : ℕ) → width ≤ length text → (k : ℕ) → k < width
    → bit_at (block text 0 width) k ≡ said text k
bit_at-block text width inside k h =
    let place : 0 + k ≡ k = omega arith in
    mask_bit text 0 width (omega (arith, inside)) k h ∙ ap (said text) place

-- the mask of the first bytes
pub KnowsSlashes-block : (text : List ℕ) (width : ℕ) → width ≤ length text → KnowsSlashes (block text 0 width) text
KnowsSlashes-block text width inside k least =
    let within = exponent-lt (block text 0 width) width k (block-lt text width inside) least in
    bit_at-block text width inside k within ∙ said-inside text k (omega (arith, within, inside))

module _ (text : List ℕ) (width : ℕ) (few : length text < 64) (least : width ≤ length text) (most : length text ≤ 2 * width) where
  abbrev last : ℕ
  last = length text - width

  inside : last + width ≤ length text
  inside = omega (arith, least)

  -- the mask of the first and the last bytes, which may overlap
  abbrev both : ℕ
  both = bit_or (block text 0 width) (block text last width * 2 ^ last % 2 ^ 64)

  -- and the bit of the end
  abbrev ended : ℕ
  ended = bit_or both (1 * 2 ^ length text % 2 ^ 64)

  shifted : block text last width * 2 ^ last % 2 ^ 64 ≡ block text last width * 2 ^ last
  shifted =
      shl_whole (block text last width) width last 64 (mask_bound text last width inside) (omega (arith, few, most, least))

  plus_zero : (n : ℕ) → n ≡ n + 0
  plus_zero n = omega arith

  -- a bit of the last bytes, moved to its place
  bit_at-last_low : (k : ℕ) → k < last → bit_at (block text last width * 2 ^ last % 2 ^ 64) k ≡ 0
  bit_at-last_low k h =
      ap (λ m. bit_at m k) (shifted ∙ plus_zero (block text last width * 2 ^ last))
      ∙ bit_at_cat_low (block text last width) last 0 k h ∙ bit_at-zero k

  bit_at-last_high : (k : ℕ) → last ≤ k → k < length text → bit_at (block text last width * 2 ^ last % 2 ^ 64) k ≡ said text k
  bit_at-last_high k from to =
      let place : last + (k - last) ≡ k = omega (arith, from) in
      ap (λ m. bit_at m k) (shifted ∙ plus_zero (block text last width * 2 ^ last))
      ∙ bit_at_cat_high (block text last width) last 0 k (pow_pos last) from
      ∙ mask_bit text last width inside (k - last) (omega (arith, from, to, least)) ∙ ap (said text) place

  bit_at-both : (k : ℕ) → k < length text → bit_at both k ≡ said text k
  bit_at-both k h =
      bit_at_or (block text 0 width) (block text last width * 2 ^ last % 2 ^ 64) k
      ∙ ⊎_elim
      (λ early. ⊎_elim
      (λ low. ap₂ max (bit_at-block text width least k early) (bit_at-last_low k low) ∙ max_left (is_slash (get_or text k 0)))
      (λ high. ap₂ max (bit_at-block text width least k early) (bit_at-last_high k high h) ∙ max_same (is_slash (get_or text k 0)))
      (cases_lt k last))
      (λ late. ap₂ max (bit_at_above (block text 0 width) width k (block-lt text width least) late)
      (bit_at-last_high k (omega (arith, late, most)) h) ∙ max_right (is_slash (get_or text k 0)))
      (cases_lt k width)

  ended-lt : ended < 2 ^ suc (length text)
  ended-lt =
      let n = suc (length text) in
      let shorter : width ≤ n = omega (arith, least) in
      let first : block text 0 width < 2 ^ n = omega (arith, block-lt text width least, pow_mono shorter) in
      let same : width + last ≡ length text = omega (arith, least) in
      let power : 2 ^ length text ≡ 2 ^ width * 2 ^ last = ap (λ i. 2 ^ i) (sym same) ∙ pow-add 2 width last in
      let moved : block text last width * 2 ^ last < 2 ^ n =
      omega (arith, power, pow-suc 2 (length text), mul-lt-mul_of_pos_right (mask_bound text last width inside) (pow_pos last)) in
      let end : 1 * 2 ^ length text % 2 ^ 64 < 2 ^ n =
      omega (arith, one_shl (length text) 64 (omega (arith, few, most)), pow-suc 2 (length text), pow_pos (length text)) in
      or_lt n both (1 * 2 ^ length text % 2 ^ 64)
      (or_lt n (block text 0 width) (block text last width * 2 ^ last % 2 ^ 64) first (omega (arith, moved, shifted))) end

  pub KnowsSlashes-ended : KnowsSlashes ended text
  KnowsSlashes-ended k h =
      let within = exponent-lt ended (suc (length text)) k ended-lt h in
      ⊎_elim
      (λ before.
      bit_at_set_other w64 both (length text) (omega (arith, few, most)) k (omega (arith, before)) ∙ bit_at-both k before
      ∙ said-inside text k before)
      (λ end.
      let at : k ≡ length text = omega (arith, end, within) in
      ap (bit_at ended) at ∙ bit_at_set_same w64 both (length text) (omega (arith, few, most))
      ∙ sym (ap (λ b. cond (is_slash b) 1 0) (get_or_past text k slash end)))
      (cases_lt k (length text))

  pub ended-some : ended ≢ 0
  ended-some none =
      omega (
        arith,
        none,
        le_or_r both (1 * 2 ^ length text % 2 ^ 64),
        one_shl (length text) 64 (omega (arith, few, most)),
        pow_pos (length text),
      )
