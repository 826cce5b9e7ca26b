-- Texts that differ, and that an index all has, are no more than its entries.
use Rattle.std.proofs.Common.{Bool, true, false, true≢false, ◌||◌, cond, Decides, ◌≡◌, ◌≢◌, ℕ, zero, suc, ◌<◌, ◌≤◌, List, [], ◌∷◌, Some, IsSome, String, Global, length, string_bytes, bytes_eq, nat_cmp, refl, sym, ap, ap₂, subst, arith}
use Rattle.std.specs.BTreeMap.{is_at}
use Rattle.std.specs.Cmp.Lexicographic.{slice_cmp}
use Rattle.std.specs.List.{AllByRecursion, IsDistinct, list_any}
use Rattle.std.specs.Map.{lookup}
use Rattle.std.proofs.lemmas.Cmp.{nat_list_eq_equiv}
use Rattle.std.proofs.lemmas.List.{length-map}
use Rattle.std.proofs.lemmas.Map.Keys.{IsDistinct-cons}
use Rattle.std.proofs.lemmas.Map.Lookups.{map_keys}
use Rattle.std.proofs.lemmas.Map.Steps.{length-le_from_keys}
use Rattle.std.proofs.lemmas.Map.Text.{is_eq-slice_cmp}
use Rattle.std.proofs.lemmas.Slice.Eq.{bytes_eq-Decides}
use Rattle.relative_path_places.specs.declared.place_index.PlaceIndex.{PlaceIndex}
use Rattle.relative_path_places.specs.IndexEntries.{number_at, entry_count}

-- the entries with texts as keys
lookup-texts : (text : List ℕ) (entries : List (String Global × ℕ))
    → lookup (bytes_eq text) (map_keys (string_bytes {Z = Global}) entries)
    ≡ lookup (is_at (λ (key : String Global). slice_cmp nat_cmp text (string_bytes key))) entries
lookup-texts text [] = refl
lookup-texts text (e ∷ entries) =
    ap₂ (λ b rest. cond b (Some e.1) rest) (sym (is_eq-slice_cmp text (string_bytes e.0))) (lookup-texts text entries)

-- the texts of the numbers below k
abbrev texts_below : (ℕ → List ℕ) → ℕ → List (List ℕ)
texts_below text zero = []
texts_below text (suc k) = text k ∷ texts_below text k

length-texts_below : (text : ℕ → List ℕ) (k : ℕ) → length (texts_below text k) ≡ k
length-texts_below text zero = refl
length-texts_below text (suc k) = ap suc (length-texts_below text k)

other_than-texts_below : (text : ℕ → List ℕ) (last : List ℕ) (k : ℕ) → ((i : ℕ) → i < k → text i ≢ last)
    → AllByRecursion (λ other. bytes_eq last other ≡ false) (texts_below text k)
other_than-texts_below text last zero differ = tt
other_than-texts_below text last (suc k) differ = (
  by (bytes_eq last (text k)) (bytes_eq-Decides last (text k)),
  other_than-texts_below text last k (λ i below. differ i (omega (arith, below))),
)
  where
    by : (b : Bool) → Decides b (last ≡ text k) → b ≡ false
    by true same = absurd (differ k (omega arith) (sym (same.0 refl)))
    by false same = refl

IsDistinct-texts_below : (text : ℕ → List ℕ) (k : ℕ) → ((i j : ℕ) → i < j → j < k → text i ≢ text j)
    → IsDistinct bytes_eq (texts_below text k)
unfolding IsDistinct
IsDistinct-texts_below text zero differ = tt
IsDistinct-texts_below text (suc k) differ =
    IsDistinct-cons bytes_eq (text k) (texts_below text k)
    (other_than-texts_below text (text k) k (λ i below. differ i k below (omega arith)))
    (IsDistinct-texts_below text k (λ i j less within. differ i j less (omega (arith, within))))

has-texts_below : (index : PlaceIndex) (text : ℕ → List ℕ) (k : ℕ) → ((i : ℕ) → i < k → IsSome (number_at index (text i)))
    → (other : List ℕ) → list_any (bytes_eq other) (texts_below text k) ≡ true → IsSome (number_at index other)
has-texts_below index text zero has other is = absurd (true≢false (sym is))
has-texts_below index text (suc k) has other is =
    by (bytes_eq other (text k)) (bytes_eq-Decides other (text k))
    (has-texts_below index text k (λ i below. has i (omega (arith, below))) other) is
  where
    by : (b : Bool) → Decides b (other ≡ text k)
        → (list_any (bytes_eq other) (texts_below text k) ≡ true → IsSome (number_at index other))
        → (b || list_any (bytes_eq other) (texts_below text k)) ≡ true → IsSome (number_at index other)
    by true same below is = subst (λ one. IsSome (number_at index one)) (sym (same.0 refl)) (has k (omega arith))
    by false same below is = below is

pub le-entry_count : (index : PlaceIndex) (text : ℕ → List ℕ) (k : ℕ)
    → ((i j : ℕ) → i < j → j < k → text i ≢ text j) → ((i : ℕ) → i < k → IsSome (number_at index (text i)))
    → k ≤ entry_count index
le-entry_count index text k differ has =
    let entries = index.by_text.entries in
    let few = length-le_from_keys nat_list_eq_equiv (texts_below text k) (map_keys (string_bytes {Z = Global}) entries)
    (IsDistinct-texts_below text k differ)
    (λ other is. subst IsSome (sym (lookup-texts other entries)) (has-texts_below index text k has other is)) in
    let count = length-map {B = List ℕ × ℕ} entries (λ (e : String Global × ℕ). (string_bytes e.0, e.1)) in
    omega (arith, few, length-texts_below text k, count)
