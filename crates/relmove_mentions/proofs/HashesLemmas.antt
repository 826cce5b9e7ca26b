-- A word with one more bit, among words.
use Rattle.std.proofs.Common.{◌≡◌, ℕ, ◌<◌, ◌*◌, ◌^◌, ◌/◌, ◌%◌, true, inl, inr, List, map, length, get_or, slice_set, bit_or, w64, sym, ap, subst, ◌∙◌, lit<}
use Rattle.std.proofs.Math.Nat.{mod-lt}
use Rattle.std.proofs.lemmas.Bool.{cases_eq, eq-eqb, eqb-true}
use Rattle.std.proofs.lemmas.List.{get_or-map, get_or-set_other, get_or-set_same, length-map, length-set, map-set}
use Rattle.std.proofs.lemmas.Nat.Bits.{bit_at_set_other, bit_at_set_same}
use Rattle.relmove_mentions.specs.Hashes.{has_bit, has_bit_at}

-- a word with one more bit
abbrev pub with_bit : ℕ → ℕ → ℕ
with_bit word bit = bit_or word (1 * 2 ^ bit % 2 ^ 64)

has_bit-with_bit : (word bit : ℕ) → bit < 64 → has_bit bit (with_bit word bit) ≡ true
has_bit-with_bit word bit within = eq-eqb _ _ (bit_at_set_same w64 word bit within)

has_bit-stays : (word bit other : ℕ) → bit < 64 → has_bit other word ≡ true → has_bit other (with_bit word bit) ≡ true
has_bit-stays word bit other within has = elim (cases_eq other bit) [
  | inl same ↦ subst (λ i. has_bit i (with_bit word bit) ≡ true) (sym same) (has_bit-with_bit word bit within)
  | inr apart ↦ eq-eqb _ _ (bit_at_set_other w64 word bit within other apart ∙ eqb-true _ _ has)
]

-- the bit of a number in its word
bit_of-within : (at : ℕ) → at % 64 < 64
bit_of-within at = mod-lt at (lit< tt)

pub has_bit_at-with_bit : (words : List ℕ) (word at : ℕ) → at / 64 < length words
    → has_bit_at (slice_set words (at / 64) (with_bit word (at % 64))) at ≡ true
has_bit_at-with_bit words word at within =
    let new = with_bit word (at % 64) in
    get_or-map (has_bit (at % 64)) (slice_set words (at / 64) new) (at / 64) 0 true
    (subst (λ n. at / 64 < n) (sym (length-set words (at / 64) new)) within)
    ∙ ap (has_bit (at % 64)) (get_or-set_same words (at / 64) new 0 within)
    ∙ has_bit-with_bit word (at % 64) (bit_of-within at)

pub has_bit_at-stays : (words : List ℕ) (word at other : ℕ) → at / 64 < length words → word ≡ get_or words (at / 64) 0
    → has_bit_at words other ≡ true → has_bit_at (slice_set words (at / 64) (with_bit word (at % 64))) other ≡ true
has_bit_at-stays words word at other within is has =
    let new = with_bit word (at % 64) in
    let has_other = has_bit (other % 64) in
    ap (λ flags. get_or flags (other / 64) true) (map-set has_other words (at / 64) new)
    ∙ elim (cases_eq (other / 64) (at / 64)) [
      | inl same ↦
          ap (λ i. get_or (slice_set (map has_other words) (at / 64) (has_other new)) i true) same
          ∙ get_or-set_same (map has_other words) (at / 64) (has_other new) true
          (subst (λ n. at / 64 < n) (sym (length-map words has_other)) within)
          ∙ has_bit-stays word (at % 64) (other % 64) (bit_of-within at)
          (ap has_other is ∙ sym (get_or-map has_other words (at / 64) 0 true within)
          ∙ ap (λ i. get_or (map has_other words) i true) (sym same) ∙ has)
      | inr apart ↦ get_or-set_other (map has_other words) (at / 64) (other / 64) (has_other new) true apart ∙ has
    ]
