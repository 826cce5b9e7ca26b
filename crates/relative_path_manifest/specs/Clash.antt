-- Files that a disk may take for one.
use Rattle.std.specs.Prelude.{◌≡◌, ◌<◌, ℕ, List, [], length, Option, MatchOption, slice_index_or}
use Rattle.std.specs.Str.{str_to_ascii_lowercase}

-- text number k, counted from 0
abbrev pub text_at : List (List ℕ) → ℕ → List ℕ
text_at texts k = slice_index_or texts k []

-- texts number i and j are equal, or differ in ASCII case alone
abbrev pub IsClash : List (List ℕ) → ℕ → ℕ → Type 0
IsClash texts i j = str_to_ascii_lowercase (text_at texts i) ≡ str_to_ascii_lowercase (text_at texts j)

-- no two of the first n texts clash
abbrev pub IsApartBefore : List (List ℕ) → ℕ → Type 0
IsApartBefore texts n = (i j : ℕ) → i < j → j < n → ¬ IsClash texts i j

-- text number `later` is the first that clashes with an earlier one, and `earlier` is that one
pub record IsFirstClash (texts : List (List ℕ)) (earlier later : ℕ) : Type 0 where
  pub before : earlier < later
  pub within : later < length texts
  pub clash : IsClash texts earlier later
  pub first : IsApartBefore texts later

-- the first clash, or `None` if no two texts clash
abbrev pub IsClashOf : List (List ℕ) → Option (ℕ × ℕ) → Type 0
IsClashOf texts found = MatchOption found (IsApartBefore texts (length texts)) (λ pair. IsFirstClash texts pair.0 pair.1)
