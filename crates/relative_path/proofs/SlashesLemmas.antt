-- A text that is trimmed of the slashes at one end, and cut at its first or its last slash.
use Rattle.std.proofs.Common.{◌≡◌, ◌≢◌, ◌<◌, ℕ, suc, zero, cond, List, [], ◌∷◌, ◌++◌, All, take, drop, replicate, Option, Some, None, MatchOption, Bor, refl, sym, subst, ap, ap₂, ◌∙◌, lit<, take-append-drop, append-nil, ◌+◌, ◌-◌, ◌*◌, ◌^◌, length, get_or, get_or-drop, length-take, length-drop, arith, take_all, ◌≤◌, pow_mono, eqb-true, ◌⊎◌, inl, inr, w64, Bool, false, not, map, reverse, ne_eqb, append_assoc, ⊎_elim}
use Rattle.std.proofs.Math.Nat.{pow-suc, eq-or-lt_of_le}
use Rattle.std.specs.Int.{bit_at, trailing_zeros}
use Rattle.std.specs.Int.Count.{count_leading_zeros}
use Rattle.std.proofs.lemmas.Bool.{eqb-false, cases_Bool, cases_lt, not-false, eq-eqb}
use Rattle.std.proofs.lemmas.List.Sums.{position_or_len_is, passes_at_first, fails_before_first, split_at_first, prefix_len_stops, prefix_len-le-length, suffix_len_is, suffix_len-le-length}
use Rattle.std.proofs.lemmas.Simd.{length-chunk, get_or-chunk, bit_mask_l, mask_l-lt}
use Rattle.std.specs.List.{position_or_len, suffix_len, before_first, after_first, before_last, after_last}
use Rattle.relative_path.specs.Slashes.{last_start}
use Rattle.std.specs.Simd.Lanes.{mask_l}
use Rattle.std.proofs.lemmas.Nat.{leading_length}
use Rattle.std.proofs.lemmas.Nat.Bits.{bit_at-zero, bit_at-trailing_zeros, bit_at_above, bit_at_cat_high}
use Rattle.std.specs.Str.{IsUtf8, IsCharBoundary}
use Rattle.std.specs.Str.Pattern.{RFindsChar, FindsTextPrefix, FindsTextSuffix, SplitsAroundMatch, StripsPrefix, StripsSuffix, FindsCharPrefix, FindsCharSuffix, IsTrimStartMatches, IsTrimEndMatches, CutsPrefixes, CutsSuffixes}
use Rattle.std.proofs.lemmas.List.Elements.{All-from_get_or, recursion_from_All}
use Rattle.std.proofs.lemmas.Str.Pattern.{NoCharPasses-char, drop_at_char}
use Rattle.relative_path.specs.Steps.{slash, is_slash, components, Step}
use Rattle.std.proofs.lemmas.List.{get_or-map, drop_all, drop_more, take_more, get_or-take, get_or-reverse, length-reverse, length-map}
use Rattle.std.proofs.lemmas.Str.{encode_ascii, IsCharBoundary-after_ascii, IsCharBoundary-before_ascii, IsCharBoundary-start, IsCharBoundary-end}
use Rattle.relative_path.proofs.StepsLemmas.{components-nil, components-append, components-slash, components-trailing_slash, HasNoSlash}
use Rattle.relative_path.proofs.SlicesLemmas.{IsSuffix-from, IsSuffix-drop, IsSuffix-trans, IsPrefix-trans}

-- ---- trimmed

components-CutsPrefixes : (s : List ℕ) (ns : List ℕ) (r : List ℕ) → CutsPrefixes (FindsCharPrefix slash) s ns r
    → components r ≡ components s
components-CutsPrefixes s [] r e = ap components e
components-CutsPrefixes s (n ∷ ns) r (m, cuts, found, left) =
    ap components left ∙ sym (components-slash (drop n m))
    ∙ sym (ap components (drop_at_char slash m 0 n found (lit< tt))) ∙ components-CutsPrefixes s ns m cuts

pub components-trim_start : (s r : List ℕ) → IsTrimStartMatches (FindsCharPrefix slash) s r
    → components r ≡ components s
components-trim_start s r trimmed = components-CutsPrefixes s trimmed.0.0 r trimmed.0.1

starts_otherwise : (r : List ℕ) → ((rest : List ℕ) → r ≢ slash ∷ rest) → get_or r 0 0 ≢ slash
starts_otherwise [] other = λ e. absurd (omega (arith, e))
starts_otherwise (b ∷ bs) other = λ e. other bs (ap (λ x. x ∷ bs) e)

pub start-trim_start : (s r : List ℕ) → IsTrimStartMatches (FindsCharPrefix slash) s r → get_or r 0 0 ≢ slash
start-trim_start s r (_, (None, other, _)) =
    starts_otherwise r (λ rest e. other rest (e ∙ sym (ap (λ x. x ++ rest) (encode_ascii slash (lit< tt)))))
start-trim_start s r (_, (Some n, found, nothing)) = absurd (let e = found.ends in omega (arith, e, nothing))

last_cut : (m : List ℕ) (i : ℕ) → drop i m ≡ slash ∷ drop (length m) m → m ≡ take i m ++ slash ∷ []
last_cut m i e =
    sym (take-append-drop i m) ∙ ap (λ x. take i m ++ x) (e ∙ ap (λ x. slash ∷ x) (drop_all (length m) m (omega arith)))

components-CutsSuffixes : (s : List ℕ) (ns : List ℕ) (r : List ℕ) → CutsSuffixes (FindsCharSuffix slash) s ns r
    → components r ≡ components s
components-CutsSuffixes s [] r e = ap components e
components-CutsSuffixes s (n ∷ ns) r (m, cuts, found, left) =
    let at = last_cut m (length m - n) (drop_at_char slash m (length m - n) (length m) found.1 (lit< tt)) in
    ap components left ∙ sym (components-trailing_slash (take (length m - n) m)) ∙ sym (ap components at)
    ∙ components-CutsSuffixes s ns m cuts

pub components-trim_end : (s r : List ℕ) → IsTrimEndMatches (FindsCharSuffix slash) s r → components r ≡ components s
components-trim_end s r trimmed = components-CutsSuffixes s trimmed.0.0 r trimmed.0.1

ends_otherwise : (r : List ℕ) → ((front : List ℕ) → r ≢ front ++ slash ∷ []) → get_or r (length r - 1) 0 ≢ slash
ends_otherwise [] other = λ e. absurd (omega (arith, e))
ends_otherwise (b ∷ bs) other = λ e.
    let index : length (b ∷ bs) - 1 ≡ length bs = omega arith in
    let last = ap (λ i. get_or (b ∷ bs) i 0) (sym index) ∙ e in
    let whole =
    sym (take_all (length bs + 1) (b ∷ bs) (omega arith)) ∙ take_more (b ∷ bs) (length bs) 0 (omega arith) in
    other (take (length bs) (b ∷ bs)) (whole ∙ ap (λ x. take (length bs) (b ∷ bs) ++ x ∷ []) last)

pub end-trim_end : (s r : List ℕ) → IsTrimEndMatches (FindsCharSuffix slash) s r → get_or r (length r - 1) 0 ≢ slash
end-trim_end s r (_, (None, other, _)) =
    ends_otherwise r (λ front e. other front (e ∙ sym (ap (λ x. front ++ x) (encode_ascii slash (lit< tt)))))
end-trim_end s r (_, (Some n, found, nothing)) = absurd (let e = found.0 in omega (arith, e, nothing))

-- ---- stripped of many slashes at once

components-replicate : (n : ℕ) (r : List ℕ) → components (replicate n slash ++ r) ≡ components r
components-replicate zero r = refl
components-replicate (suc n) r = components-slash (replicate n slash ++ r) ∙ components-replicate n r

components-append_replicate : (xs : List ℕ) (n : ℕ) → components (xs ++ replicate n slash) ≡ components xs
components-append_replicate xs zero = ap components (append-nil xs)
components-append_replicate xs (suc n) =
    let none = sym (ap components (append-nil (replicate n slash))) ∙ components-replicate n [] ∙ components-nil in
    components-append xs (replicate n slash) ∙ ap (λ cs. components xs ++ cs) none ∙ append-nil (components xs)

pub components-strip_prefix : (n : ℕ) (text left : List ℕ)
    → StripsPrefix (FindsTextPrefix (replicate n slash)) text left → components left ≡ components text
components-strip_prefix n text left (m, (counted, joined, _), is, _) =
    ap components is ∙ sym (components-replicate n (drop m text)) ∙ sym (ap components joined)

pub components-strip_suffix : (n : ℕ) (text left : List ℕ)
    → StripsSuffix (FindsTextSuffix (replicate n slash)) text left → components left ≡ components text
components-strip_suffix n text left (m, (counted, joined, _), is, _) =
    ap components is ∙ sym (components-append_replicate (take (length text - m) text) n) ∙ sym (ap components joined)

-- a suffix of a suffix of the text is a suffix of the text
pub suffix-trans : (whole text left : List ℕ) (n : ℕ) → text ≡ drop (length whole - length text) whole
    → left ≡ drop n text → left ≡ drop (length whole - length left) whole
suffix-trans whole text left n outer inner =
    let joined = sym (ap (λ x. take n text ++ x) inner ∙ take-append-drop n text) in
    IsSuffix-drop (IsSuffix-trans (IsSuffix-from outer) (record { front = take n text; joined = joined }))

-- a prefix of a prefix of the text is a prefix of the text
pub prefix-trans : (whole text left : List ℕ) → text ≡ take (length text) whole → left ≡ take (length left) text
    → left ≡ take (length left) whole
prefix-trans whole text left outer inner = (IsPrefix-trans (record { front = outer }) (record { front = inner })).front

pub prefix-strip_suffix : (n : ℕ) (text left : List ℕ)
    → StripsSuffix (FindsTextSuffix (replicate n slash)) text left → left ≡ take (length left) text
prefix-strip_suffix n text left (m, _, is, counted) =
    let len : length text - m ≡ length left = omega arith in is ∙ ap (λ k. take k text) len

-- ---- the first and the last slash

-- the byte is no slash
abbrev is_solid : ℕ → Bool
is_solid b = not (is_slash b)

-- the index of the first slash, or the length of the text
pub position_is : (bytes : List ℕ) (n : ℕ) → n ≤ length bytes → ((k : ℕ) → k < n → get_or bytes k 0 ≢ slash)
    → (n < length bytes → get_or bytes n 0 ≡ slash) → n ≡ position_or_len is_slash bytes
position_is bytes n inside before at =
    sym (position_or_len_is is_slash bytes n 0 inside (λ k h. ne_eqb _ _ (before k h)) (λ h. eq-eqb _ _ (at h)))

-- the index after the last slash, or 0
pub last_start_is : (bytes : List ℕ) (n : ℕ) → n ≤ length bytes
    → ((k : ℕ) → n ≤ k → k < length bytes → get_or bytes k 0 ≢ slash) → (0 < n → get_or bytes (n - 1) 0 ≡ slash)
    → n ≡ last_start is_slash bytes
last_start_is bytes n inside after at =
    let counted =
    suffix_len_is is_solid bytes n 0 inside (λ k from to. ap not (ne_eqb _ _ (after k from to)))
    (λ h. ap not (eq-eqb _ _ (at h))) in omega (arith, inside, counted)

pub last_start_none : (bytes : List ℕ) → ((k : ℕ) → k < length bytes → get_or bytes k 0 ≢ slash)
    → 0 ≡ last_start is_slash bytes
last_start_none bytes none = last_start_is bytes 0 (omega arith) (λ k _ to. none k to) (λ h. absurd (omega (arith, h)))

slash_at_first : (bytes : List ℕ) → position_or_len is_slash bytes < length bytes
    → get_or bytes (position_or_len is_slash bytes) 0 ≡ slash
slash_at_first bytes some = eqb-true _ _ (passes_at_first is_slash bytes 0 some)

slash_before_last : (bytes : List ℕ) → 0 < last_start is_slash bytes
    → get_or bytes (last_start is_slash bytes - 1) 0 ≡ slash
slash_before_last bytes some =
    let n = suffix_len is_solid bytes in
    let at : length bytes - 1 - n ≡ last_start is_slash bytes - 1 = omega arith in
    let stops = prefix_len_stops is_solid (reverse bytes) 0 (omega (arith, some, length-reverse bytes)) in
    eqb-true _ _
    (not-false _ (ap is_solid (ap (λ i. get_or bytes i 0) (sym at) ∙ sym (get_or-reverse bytes n 0 (omega (arith, some)))) ∙ stops))

-- the first slash comes no later than the end
pub position_le : (bytes : List ℕ) → position_or_len is_slash bytes ≤ length bytes
position_le = prefix_len-le-length is_solid

-- no slash comes after the last one
fails_after_last : (bytes : List ℕ) (k : ℕ) → last_start is_slash bytes ≤ k → k < length bytes
    → is_slash (get_or bytes k 0) ≡ false
fails_after_last bytes k from to =
    let back : length bytes - 1 - (length bytes - 1 - k) ≡ k = omega (arith, to) in
    ap is_slash (ap (λ i. get_or bytes i 0) (sym back) ∙ sym (get_or-reverse bytes (length bytes - 1 - k) 0 (omega (arith, to))))
    ∙ fails_before_first is_slash (reverse bytes) (length bytes - 1 - k) 0 (omega (arith, from, to, suffix_len-le-length is_solid bytes))

-- ---- a search by blocks of up to 64 bytes: a mask has a bit for each byte, set if the byte is a slash

-- the highest power of two in a number is one of its bits
top_bit : (n j : ℕ) → 2 ^ j ≤ n → n < 2 ^ suc j → bit_at n j ≡ 1
top_bit n j least most =
    let whole : n ≡ 1 * 2 ^ j + (n - 2 ^ j) = omega (arith, least) in
    let less : n - 2 ^ j < 2 ^ j = omega (arith, least, most, pow-suc 2 j) in
    let none : j - j ≡ 0 = omega arith in
    ap (λ m. bit_at m j) whole ∙ bit_at_cat_high 1 j (n - 2 ^ j) j less (omega arith) ∙ ap (bit_at 1) none

module _ (bytes : List ℕ) (start width : ℕ) (inside : start + width ≤ length bytes) where
  abbrev mask : ℕ
  mask = mask_l (map is_slash (take width (drop start bytes)))

  pub mask_bound : mask < 2 ^ width
  mask_bound =
      subst (λ n. mask < 2 ^ n) (length-map (take width (drop start bytes)) is_slash ∙ length-chunk start width bytes inside)
      (mask_l-lt (map is_slash (take width (drop start bytes))))

  pub mask_bit : (k : ℕ) → k < width → bit_at mask k ≡ cond (is_slash (get_or bytes (start + k) 0)) 1 0
  mask_bit k h =
      bit_mask_l (map is_slash (take width (drop start bytes))) k
      ∙ ap (λ b. cond b 1 0)
      (get_or-map is_slash (take width (drop start bytes)) k 0 false (omega (arith, h, length-chunk start width bytes inside))
      ∙ ap is_slash (get_or-chunk start width bytes k 0 h))

  slash_at : (k : ℕ) → k < width → bit_at mask k ≡ 1 → get_or bytes (start + k) 0 ≡ slash
  slash_at k within set =
      ⊎_elim (λ e. eqb-true _ _ e)
      (λ e. absurd (omega (arith, set, mask_bit k within, ap {B = ℕ} (λ b. cond b 1 0) e)))
      (cases_Bool (is_slash (get_or bytes (start + k) 0)))

  no_slash_at : (k : ℕ) → start ≤ k → k < start + width → bit_at mask (k - start) ≡ 0 → get_or bytes k 0 ≢ slash
  no_slash_at k from to clear e =
      let at : start + (k - start) ≡ k = omega (arith, from) in
      omega (
        arith,
        clear,
        mask_bit (k - start) (omega (arith, from, to)),
        ap {B = ℕ} (λ i. cond (is_slash (get_or bytes i 0)) 1 0) at,
        ap {B = ℕ} (λ b. cond (is_slash b) 1 0) e,
      )

  wide : width ≤ 64 → mask < 2 ^ 64
  wide few = omega (arith, mask_bound, pow_mono few)

  -- if no slash comes before the block
  pub first_in : width ≤ 64 → start ≤ position_or_len is_slash bytes → mask ≢ 0
      → start + trailing_zeros w64 mask ≡ position_or_len is_slash bytes
  first_in few after some =
      let n = trailing_zeros w64 mask in
      let lowest = bit_at-trailing_zeros w64 mask (omega (arith, some)) (wide few) in
      let within : n < width =
      ⊎_elim (λ h. h) (λ h. absurd (omega (arith, lowest.1, bit_at_above mask width n mask_bound h))) (cases_lt n width) in
      position_is bytes (start + n) (omega (arith, within, inside))
      (λ k h. ⊎_elim
      (λ early. eqb-false _ _ (fails_before_first is_slash bytes k 0 (omega (arith, early, after))))
      (λ late. no_slash_at k late (omega (arith, h, within)) (lowest.2 (k - start) (omega (arith, h, late))))
      (cases_lt k start))
      (λ _. slash_at n within lowest.1)

  pub first_after : start ≤ position_or_len is_slash bytes → mask ≡ 0 → start + width ≤ position_or_len is_slash bytes
  first_after after none =
      let n = position_or_len is_slash bytes in
      ⊎_elim
      (λ h. absurd (no_slash_at n after h (ap (λ m. bit_at m (n - start)) none ∙ bit_at-zero (n - start))
      (slash_at_first bytes (omega (arith, h, inside)))))
      (λ h. h)
      (cases_lt n (start + width))

  -- if no slash comes after the block
  pub last_in : width ≤ 64 → last_start is_slash bytes ≤ start + width
      → (64 - count_leading_zeros 64 mask ≡ 0 → last_start is_slash bytes ≤ start)
      × (0 < 64 - count_leading_zeros 64 mask → start + (64 - count_leading_zeros 64 mask) ≡ last_start is_slash bytes)
  last_in few before =
      let (m, counted, most, least) = leading_length 64 mask (wide few) in
      let is : 64 - count_leading_zeros 64 mask ≡ m = omega (arith, counted) in
      let none : (k : ℕ) → start + m ≤ k → k < length bytes → get_or bytes k 0 ≢ slash = λ k from to. ⊎_elim
      (λ near. no_slash_at k (omega (arith, from)) near (bit_at_above mask m (k - start) most (omega (arith, from))))
      (λ far. eqb-false _ _ (fails_after_last bytes k (omega (arith, far, before)) to))
      (cases_lt k (start + width)) in
      let top : 0 < m → bit_at mask (m - 1) ≡ 1 = λ some.
      let same : suc (m - 1) ≡ m = omega (arith, some) in
      top_bit mask (m - 1) (omega (arith, least, pow-suc 2 (m - 1), ap (λ i. 2 ^ i) same)) (omega (arith, most, ap (λ i. 2 ^ i) same)) in
      let within : m ≤ width = ⊎_elim
      (λ h. absurd (omega (arith, top (omega (arith, h)), bit_at_above mask width (m - 1) mask_bound (omega (arith, h)))))
      (λ h. h)
      (cases_lt width m) in (
        λ zero. ⊎_elim
            (λ h. absurd (none (last_start is_slash bytes - 1) (omega (arith, zero, is, h)) (omega (arith, h))
            (slash_before_last bytes (omega (arith, h)))))
            (λ h. h)
            (cases_lt start (last_start is_slash bytes)),
        λ some. ap (λ n. start + n) is ∙ last_start_is bytes (start + m) (omega (arith, within, inside)) none
            (λ _. let at : start + (m - 1) ≡ start + m - 1 = omega (arith, some, is) in
            ap (λ i. get_or bytes i 0) (sym at) ∙ slash_at (m - 1) (omega (arith, within, some, is)) (top (omega (arith, some, is)))),
      )

-- ---- a cut at a slash

-- the first slash, or the end, is a character boundary
pub IsCharBoundary-piece : (text : List ℕ) (n : ℕ) → n ≤ length text → (n < length text → get_or text n 0 ≡ slash)
    → IsCharBoundary text n
IsCharBoundary-piece text n inside at = elim (eq-or-lt_of_le inside) [
  | inl whole ↦ subst (IsCharBoundary text) (sym whole) (IsCharBoundary-end text)
  | inr more ↦ IsCharBoundary-before_ascii text n more (omega (arith, at more))
]

pub IsCharBoundary_first : (text : List ℕ) → IsCharBoundary text (position_or_len is_slash text)
IsCharBoundary_first text =
    IsCharBoundary-piece text (position_or_len is_slash text) (position_le text) (slash_at_first text)

-- so is the index after the first slash
pub IsCharBoundary_after_first : (text : List ℕ) → IsUtf8 text → position_or_len is_slash text < length text
    → IsCharBoundary text (position_or_len is_slash text + 1)
IsCharBoundary_after_first text utf8 some =
    IsCharBoundary-after_ascii text (position_or_len is_slash text) utf8 some (omega (arith, slash_at_first text some))

-- so is the last slash, if there is one, or the start
pub IsCharBoundary_before_last : (text : List ℕ) → IsUtf8 text → IsCharBoundary text (last_start is_slash text - 1)
IsCharBoundary_before_last text utf8 =
    ⊎_elim
    (λ some. IsCharBoundary-piece text (last_start is_slash text - 1) (omega arith) (λ _. slash_before_last text some))
    (λ none. let front : 0 ≡ last_start is_slash text - 1 = omega (arith, none) in
    subst (IsCharBoundary text) front (IsCharBoundary-start text utf8))
    (cases_lt 0 (last_start is_slash text))

-- so is the index after the last slash
pub IsCharBoundary_last : (text : List ℕ) → IsUtf8 text → 0 < last_start is_slash text
    → IsCharBoundary text (last_start is_slash text)
IsCharBoundary_last text utf8 some =
    let same : last_start is_slash text - 1 + 1 ≡ last_start is_slash text = omega (arith, some) in
    subst (IsCharBoundary text) same
    (IsCharBoundary-after_ascii text (last_start is_slash text - 1) utf8 (omega (arith, some))
    (omega (arith, slash_before_last text some)))

-- the text before the first slash has no slash
pub HasNoSlash-before_first : (text : List ℕ) → HasNoSlash (before_first is_slash text)
HasNoSlash-before_first text =
    let n = position_or_len is_slash text in
    recursion_from_All (λ b. is_slash b ≡ false) (take n text)
    (All-from_get_or (λ b. is_slash b ≡ false) (take n text) 0
    (λ k h. let inside : k < n = omega (arith, h, length-take n text) in
    ap is_slash (get_or-take n text k 0 inside) ∙ fails_before_first is_slash text k 0 inside))

-- the text after the last slash has no slash
pub HasNoSlash-after_last : (text : List ℕ) → HasNoSlash (after_last is_slash text)
HasNoSlash-after_last text =
    let n = last_start is_slash text in
    recursion_from_All (λ b. is_slash b ≡ false) (drop n text)
    (All-from_get_or (λ b. is_slash b ≡ false) (drop n text) 0
    (λ k h.
    ap is_slash (get_or-drop n text k 0) ∙ fails_after_last text (n + k) (omega arith) (omega (arith, h, length-drop n text))))

-- the text is what comes before its first slash, that slash, and what comes after it
pub joined_at_first_slash : (text : List ℕ) → (text ≡ before_first is_slash text ++ slash ∷ after_first is_slash text)
    ⊎ ((text ≡ before_first is_slash text) × (after_first is_slash text ≡ []))
joined_at_first_slash text =
    let n = position_or_len is_slash text in
    ⊎_elim
    (λ some. inl (split_at_first is_slash text 0 some
    ∙ ap (λ b. before_first is_slash text ++ b ∷ after_first is_slash text) (slash_at_first text some)))
    (λ none. inr (sym (take_all n text none), drop_all (n + 1) text (omega (arith, none))))
    (cases_lt n (length text))

-- the text is what comes before its last slash, that slash, and what comes after it
pub joined_at_last_slash : (text : List ℕ) → (text ≡ before_last is_slash text ++ slash ∷ after_last is_slash text)
    ⊎ ((text ≡ after_last is_slash text) × (before_last is_slash text ≡ []))
joined_at_last_slash text =
    let n = last_start is_slash text in
    ⊎_elim
    (λ some.
    let next : n - 1 + 1 ≡ n = omega (arith, some) in
    let last =
    drop_more text (n - 1) 0 (omega (arith, some)) ∙ ap₂ (λ b k. b ∷ drop k text) (slash_before_last text some) next in
    inl (sym (take-append-drop (n - 1) text) ∙ ap (λ x. take (n - 1) text ++ x) last))
    (λ none.
    let start : n ≡ 0 = omega (arith, none) in
    inr (sym (ap (λ k. drop k text) start), ap (λ k. take (k - 1) text) start))
    (cases_lt 0 n)

-- what `rsplit_once` returns for an ASCII character
pub rsplit_once_parts : (c : ℕ) (text : List ℕ) (r : Option (Bor (List ℕ) × Bor (List ℕ)))
    → MatchOption r (RFindsChar c text None) (λ x. SplitsAroundMatch (RFindsChar c) text x.0.now x.1.now) → c < 128
    → MatchOption r (All (λ b. b ≢ c) text) (λ x. (text ≡ x.0.now ++ c ∷ x.1.now) × All (λ b. b ≢ c) x.1.now)
rsplit_once_parts c text None found ascii =
    All-from_get_or (λ b. b ≢ c) text 0 (λ i h. NoCharPasses-char c text i found ascii h)
rsplit_once_parts c text (Some parts) (i, j, found, front, back, _, _, _) ascii =
    let joined = sym (take-append-drop i text) ∙ ap (λ x. take i text ++ x) (drop_at_char c text i j found.1 ascii) in
    let last =
    All-from_get_or (λ b. b ≢ c) (drop j text) 0 (λ k h. NoCharPasses-char c (drop j text) k found.0 ascii h) in
    (joined ∙ ap₂ (λ x y. x ++ c ∷ y) (sym front) (sym back), rw back last)

-- ---- a text in two parts

-- a text has no slash, or a last one
pub last_slash : (text : List ℕ)
    → HasNoSlash text ⊎ ((xs : List ℕ) × (ys : List ℕ) × (text ≡ xs ++ slash ∷ ys) × HasNoSlash ys)
last_slash [] = inl tt
last_slash (b ∷ bs) = elim (last_slash bs) [
  | inl none ↦
      ⊎_elim (λ e. inr ([], bs, ap (λ x. x ∷ bs) (eqb-true b slash e), none)) (λ e. inl (e, none))
      (cases_Bool (is_slash b))
  | inr (xs, ys, joined, none) ↦ inr (b ∷ xs, ys, ap (λ x. b ∷ x) joined, none)
]

-- a text has no slash, or a first one
first_slash : (text : List ℕ)
    → HasNoSlash text ⊎ ((xs : List ℕ) × (ys : List ℕ) × (text ≡ xs ++ slash ∷ ys) × HasNoSlash xs)
first_slash [] = inl tt
first_slash (b ∷ bs) = ⊎_elim
    (λ e. inr ([], bs, ap (λ x. x ∷ bs) (eqb-true b slash e), tt))
    (λ e. elim (first_slash bs) [
      | inl none ↦ inl (e, none)
      | inr (xs, ys, joined, none) ↦ inr (b ∷ xs, ys, ap (λ x. b ∷ x) joined, (e, none))
    ])
    (cases_Bool (is_slash b))

-- whatever follows a text, only its last piece can change
pub components-before : (front : List ℕ)
    → (cs : List Step) × (x : List ℕ) × HasNoSlash x
    × ((rest : List ℕ) → components (front ++ rest) ≡ cs ++ components (x ++ rest))
components-before front = elim (last_slash front) [
  | inl none ↦ ([], front, none, λ rest. refl)
  | inr (xs, ys, joined, none) ↦ (
    components xs,
    ys,
    none,
    λ rest. ap (λ t. components (t ++ rest)) joined ∙ ap components (append_assoc xs (slash ∷ ys) rest)
        ∙ components-append xs (ys ++ rest),
  )
]

-- whatever precedes a text, only its first piece can change
pub components-after : (rest : List ℕ)
    → (cs : List Step) × (y : List ℕ) × HasNoSlash y
    × ((front : List ℕ) → components (front ++ rest) ≡ components (front ++ y) ++ cs)
components-after rest = elim (first_slash rest) [
  | inl none ↦ ([], rest, none, λ front. sym (append-nil (components (front ++ rest))))
  | inr (xs, ys, joined, none) ↦ (
    components ys,
    xs,
    none,
    λ front. ap (λ t. components (front ++ t)) joined ∙ ap components (sym (append_assoc front xs (slash ∷ ys)))
        ∙ components-append (front ++ xs) ys,
  )
]
