-- Staging names: the next one differs from those before it.
use Rattle.std.proofs.Common.{Bool, true, false, true≢false, Decides, ◌≡◌, ◌≢◌, ℕ, ◌<◌, ◌≤◌, ◌+◌, List, [], ◌∷◌, ◌++◌, String, Global, codes, length, map, take, get_or, string_bytes, refl, sym, ap, ◌∙◌, append_assoc, arith}
use Rattle.std.specs.Str.{bytes_eq}
use Rattle.std.specs.List.Sorted.{IsPermutation}
use Rattle.std.specs.List.{IsDistinct}
use Rattle.std.proofs.lemmas.Bool.Decides.{same_from_decides}
use Rattle.std.proofs.lemmas.List.{append_cancel_left, map_more, take_all}
use Rattle.std.proofs.lemmas.List.Elements.{All-push, All-weaker}
use Rattle.std.proofs.lemmas.List.Quantifiers.{all_pairs_push}
use Rattle.std.proofs.lemmas.List.Sorted.{All-permutation}
use Rattle.std.proofs.lemmas.Map.Keys.{IsDistinct-IsPermutation, IsDistinct-from_apart, apart_from_distinct}
use Rattle.std.proofs.lemmas.Slice.Eq.{bytes_eq-Decides}
use Rattle.relative_path.specs.Steps.{Step, components}
use Rattle.relative_path_places.specs.PlaceIndex.{IsNoneAt}
use Rattle.relative_path_places.specs.declared.place_index.PlaceIndex.{PlaceIndex}
use Rattle.relmove_steps.specs.declared.staging.FreeNames.{FreeNames}
use Rattle.relmove_steps.specs.Numbers.{numeral}
use Rattle.relmove_steps.specs.StagingNames.{numbered_name, IsNumbered, AreFreeNames, AreDrawn, IsDrawn}
use Rattle.relmove_steps.proofs.NumbersLemmas.{numeral_injective}

-- ---- names that differ, in another order

pub bytes_eq-false : (one other : List ℕ) → one ≢ other → bytes_eq one other ≡ false
bytes_eq-false one other differ = by (bytes_eq one other) (bytes_eq-Decides one other)
  where
    by : (b : Bool) → Decides b (one ≡ other) → b ≡ false
    by true decides = absurd (differ (decides.0 refl))
    by false decides = refl

pub bytes_eq-flips : (one other : List ℕ) → bytes_eq one other ≡ bytes_eq other one
bytes_eq-flips one other =
    same_from_decides (bytes_eq one other) (bytes_eq other one) (bytes_eq-Decides one other)
    ((λ is. sym ((bytes_eq-Decides other one).0 is)), (λ is. (bytes_eq-Decides other one).1 (sym is)))

pub AreFreeNames-IsPermutation : (paths : List (List Step)) (names others : List (List ℕ)) → IsPermutation names others
    → AreFreeNames paths names → AreFreeNames paths others
AreFreeNames-IsPermutation paths names others moved free =
    let distinct : IsDistinct bytes_eq names =
    IsDistinct-from_apart bytes_eq names (λ i j d l within. bytes_eq-false _ _ (free.different i j d l within)) in
    let distinct_2 = IsDistinct-IsPermutation bytes_eq bytes_eq-flips names others moved distinct in
    record {
      numbered = All-permutation (λ name. (n : ℕ) × (name ≡ numbered_name n)) names others moved free.numbered;
      different = λ i j d l within same.
          true≢false (sym ((bytes_eq-Decides _ _).1 same) ∙ apart_from_distinct bytes_eq others i j d distinct_2 l
          within);
      unused = All-permutation (λ name. IsNoneAt paths (components name)) names others moved free.unused;
    }

-- ---- drawing names

-- the same names, perhaps after some more were drawn
pub AreDrawn-later : (index : PlaceIndex) (before after : FreeNames) (names : List (List ℕ))
    → after.entries ≡ before.entries → before.last ≤ after.last → AreDrawn index before names
    → AreDrawn index after names
AreDrawn-later index before after names entries later drawn = record {
  entries = ap (λ entries. entries.now) entries ∙ drawn.entries;
  numbered = All-weaker (IsNumbered before.last) (IsNumbered after.last)
      (λ name is.
      let within = is.within in
      record { number = is.number; within = omega (arith, within, later); name_is = is.name_is }) names drawn.numbered;
  fresh = drawn.fresh;
}

-- a name with another number is another one
pub numbered_name-other : (one other : ℕ) → one < other → numbered_name one ≢ numbered_name other
numbered_name-other one other less same =
    let is = numeral_injective one other (append_cancel_left (codes ".relmove-") (numeral one) (numeral other) same) in
    absurd (omega (arith, less, is))

pub AreDrawn-next : (index : PlaceIndex) (before after : FreeNames) (names : List (List ℕ)) (name : List ℕ)
    → IsDrawn before after name → AreDrawn index before names → AreDrawn index after (names ++ name ∷ [])
AreDrawn-next index before after names name next drawn =
    let late = next.late in
    let last_is = next.last in
    let numbered =
    (AreDrawn-later index before after names next.entries (omega (arith, late, last_is)) drawn).numbered in
    record {
      entries = ap (λ entries. entries.now) next.entries ∙ drawn.entries;
      numbered = All-push (IsNumbered after.last) names name numbered
          (record { number = next.number; within = omega (arith, last_is); name_is = next.name_is });
      fresh = λ paths has. record {
        numbered = All-push (λ other. (n : ℕ) × (other ≡ numbered_name n)) names name (drawn.fresh paths has).numbered
            (next.number, next.name_is);
        different = all_pairs_push (λ one other. one ≢ other) names name (drawn.fresh paths has).different
            (λ k d l same.
            let is = drawn.numbered k d l in
            let within = is.within in
            numbered_name-other is.number next.number (omega (arith, within, late))
            (sym is.name_is ∙ same ∙ next.name_is));
        unused = All-push (λ other. IsNoneAt paths (components other)) names name (drawn.fresh paths has).unused
            (next.unused paths (rw drawn.entries has));
      };
    }

-- ---- the names of the moves, one after another

pub staged_names-next : (left before now : List (List ℕ)) (staging : List (String Global)) (k : ℕ) (item : String Global)
    (name : List ℕ) → k < length staging → item ≡ get_or staging k item → name ≡ string_bytes item
    → before ≡ left ++ map string_bytes (take k staging) → now ≡ before ++ name ∷ []
    → now ≡ left ++ map string_bytes (take (k + 1) staging)
staged_names-next left before now staging k item name within is name_is so_far next =
    next ∙ ap (λ names. names ++ name ∷ []) so_far
    ∙ append_assoc left (map string_bytes (take k staging)) (name ∷ [])
    ∙ ap (λ one. left ++ (map string_bytes (take k staging) ++ one ∷ [])) (name_is ∙ ap string_bytes is)
    ∙ ap (λ names. left ++ names) (sym (map_more string_bytes staging k item within))

pub staged_names-all : (left now : List (List ℕ)) (staging : List (String Global)) (k : ℕ) → length staging ≤ k
    → now ≡ left ++ map string_bytes (take k staging) → now ≡ left ++ map string_bytes staging
staged_names-all left now staging k all so_far =
    so_far ∙ ap (λ some. left ++ map string_bytes some) (take_all k staging all)
