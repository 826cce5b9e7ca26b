-- The names of headings, whose slugs can be the same.
use Rattle.std.specs.Prelude.{◌≡◌, ℕ, ◌<◌, Bool, true, false, ◌==◌, List, [], ◌∷◌, ◌++◌, length, take, get_or, decimal, if◌then◌else◌}
use Rattle.std.specs.List.{list_any}
use Rattle.std.specs.Str.{bytes_eq}

-- the name with a number that a slug can have: with 0 the slug itself, and otherwise the slug, a dash and the number
abbrev pub numbered : List ℕ → ℕ → List ℕ
numbered slug n = if n == 0 then slug else slug ++ (45 ∷ decimal n)

-- the name is among these
abbrev pub is_among : List (List ℕ) → List ℕ → Bool
is_among names name = list_any (bytes_eq name) names

-- of the names that a slug can have, it is the first that isn't taken
pub record IsFirstFree (is_taken : List ℕ → Bool) (slug name : List ℕ) : Type 0 where
  pub number : ℕ
  pub is : name ≡ numbered slug number
  pub free : is_taken name ≡ false
  pub first : (n : ℕ) → n < number → is_taken (numbered slug n) ≡ true

-- each heading has the first name that no heading before it has
pub record AreNamesOf (slugs names : List (List ℕ)) : Type 0 where
  pub count : length names ≡ length slugs
  pub each : (k : ℕ) → k < length slugs → IsFirstFree (is_among (take k names)) (get_or slugs k []) (get_or names k [])
