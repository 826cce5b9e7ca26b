-- The names that headings have taken, in a map, each with the last number that it got as a slug.
use Rattle.std.specs.Prelude.{◌≡◌, ℕ, ◌≤◌, ◌<◌, ◌+◌, Bool, true, false, List, String, Some, Option, is_some, ◌||◌}
use Rattle.std.specs.BTreeMap.{BTreeMap, get_by_text}
use Rattle.std.specs.Str.{bytes_eq}
use Rattle.std.specs.Option.{option_map_or}
use Rattle.markdown_anchors.specs.Names.{numbered, IsFirstFree}

module _ {Y : Type 0} where
  -- the name is taken
  abbrev pub is_taken : BTreeMap (String Y) ℕ → List ℕ → Bool
  is_taken taken name = is_some (get_by_text taken name)

  -- a slug's names up to its last number are taken
  abbrev pub IsTaking : BTreeMap (String Y) ℕ → Type 0
  IsTaking taken = (slug : List ℕ) (last n : ℕ) → get_by_text taken slug ≡ Some last → n ≤ last
      → is_taken taken (numbered slug n) ≡ true

  -- from one number on, the number is the first with which a slug's name isn't taken
  pub record IsNextFree (taken : BTreeMap (String Y) ℕ) (slug : List ℕ) (from number : ℕ) : Type 0 where
    pub after : from ≤ number
    pub free : is_taken taken (numbered slug number) ≡ false
    pub others : (n : ℕ) → from ≤ n → n < number → is_taken taken (numbered slug n) ≡ true

  -- the first free name of a slug is taken, and no other name is
  pub record AddsFirstFree (old new : BTreeMap (String Y) ℕ) (slug name : List ℕ) : Type 0 where
    pub first : IsFirstFree (is_taken old) slug name
    pub adds : (other : List ℕ) → is_taken new other ≡ (bytes_eq other name || is_taken old other)
    pub taking : IsTaking new

-- the number after the last one, if there is one
abbrev pub next_number : Option ℕ → ℕ
next_number last = option_map_or (λ n. n + 1) last 0
