-- The names that an `OldNames` has.
use Rattle.std.specs.Prelude.{◌≡◌, ◌==◌, ◌<◌, ◌≤◌, if◌then◌else◌, ℕ, Bool, true, List, map, Option, Some, MatchOption, IsSome, IsTrue, ◌++◌, ◌∷◌, []}
use Rattle.std.specs.BTreeMap.{get_by_text}
use Rattle.std.specs.List.{Contains, flat_map}
use Rattle.std.specs.Option.{option_map_or}
use Rattle.relative_path.specs.Steps.{Step, name}
use Rattle.relative_path.specs.Walk.{IsSame}
use Rattle.relative_path.specs.Normalizing.{IsNormalTextOf}
use Rattle.relative_path_places.specs.Views.{view_text}
use Rattle.relative_path_places.specs.declared.normal_view.NormalView.{NormalView}
use Rattle.relmove_mentions.specs.Endings.{ending_of}
use Rattle.relmove_mentions.specs.First.{IsFirst}
use Rattle.relmove_mentions.specs.Hashes.{may_have}
use Rattle.relmove_mentions.specs.NameHashes.{hash_of, two_hash}
use Rattle.relmove_mentions.specs.Names.{names_of, most_others}
use Rattle.relmove_mentions.specs.Spans.{others_in}
use Rattle.relmove_mentions.specs.declared.hashes.Hashes.{Hashes}
use Rattle.relmove_mentions.specs.declared.old_names.OldNames.{OldNames}

-- a path, and one of its names
abbrev pub PathName : Type 0
PathName = List ℕ × List Step

-- this is the normal text of the name
abbrev pub HasText : List ℕ → PathName → Type 0
HasText text pair = IsNormalTextOf pair.1 text

-- a path with each of these names
abbrev pub with_names : List ℕ → List (List Step) → List PathName
with_names old names = map (λ steps. (old, steps)) names

-- each path with each of its names
abbrev pub all_names : List (List ℕ) → List PathName
all_names olds = flat_map (λ old. with_names old (names_of old)) olds

-- the set has what this last name of a path ends in, also apart from others if the path has a byte that doesn't go on a path
pub record HasLastName (set : OldNames) (old n : List ℕ) : Type 0 where
  pub ending : IsTrue (may_have set.endings (ending_of n).hash)
  pub with_others : 0 < others_in old → IsTrue (may_have set.endings_with_others (ending_of n).hash)

-- the endings of the names that can have so many bytes that don't go on a path
abbrev pub endings_for : OldNames → ℕ → Hashes
endings_for set others = if others == 0 then set.endings else set.endings_with_others

-- a name of the set may end in two or three names with this hash, or in a name after one with it, if there is a hash
abbrev pub may_end_in : OldNames → Option ℕ → Bool
may_end_in set two = option_map_or (may_have set.last_names) two true

-- under the normal text of a name the set has the first path with this name, and under no other text a path; it has
-- the last name of each, the one before, and its last two and three names
pub record Lists (names : List PathName) (set : OldNames) : Type 0 where
  pub only : (text : List ℕ) (path : NormalView) → get_by_text set.by_text text ≡ Some path
      → (steps : List Step) × IsFirst (HasText text) names (view_text path, steps)
  pub each : (old : List ℕ) (steps : List Step) (text : List ℕ) → Contains names (old, steps) → IsNormalTextOf steps text
      → IsSome (get_by_text set.by_text text)
  pub last : (old : List ℕ) (steps front : List Step) (n : List ℕ) → Contains names (old, steps)
      → IsSame (front ++ name n ∷ []) steps → HasLastName set old n
  pub above : (old : List ℕ) (steps front : List Step) (d n : List ℕ) → Contains names (old, steps)
      → IsSame (front ++ name d ∷ name n ∷ []) steps → IsTrue (may_end_in set (Some (hash_of d)))
  pub last_two : (old : List ℕ) (steps front : List Step) (d n : List ℕ) → Contains names (old, steps)
      → IsSame (front ++ name d ∷ name n ∷ []) steps → IsTrue (may_end_in set (two_hash (Some (hash_of d)) (Some (hash_of n))))
  pub last_three : (old : List ℕ) (steps front : List Step) (d m n : List ℕ) → Contains names (old, steps)
      → IsSame (front ++ name d ∷ name m ∷ name n ∷ []) steps
      → IsTrue (may_end_in set (two_hash (Some (hash_of d)) (two_hash (Some (hash_of m)) (Some (hash_of n)))))

-- the set has these old paths
pub record Has (olds : List (List ℕ)) (set : OldNames) : Type 0 where
  pub lists : Lists (all_names olds) set
  pub most : set.most_others ≡ most_others olds

-- this holds of a path that has at least so many bytes that don't go on a path
abbrev pub WithOthers : ℕ → (List ℕ → Type 0) → List ℕ → Type 0
WithOthers others P old = (others ≤ others_in old) × P old

-- one of the old paths for which this holds, or `None` if it holds for none
abbrev pub Finds : List (List ℕ) → (List ℕ → Type 0) → Option NormalView → Type 0
Finds olds P found = MatchOption found ((old : List ℕ) → Contains olds old → ¬ P old)
    (λ path. Contains olds (view_text path) × P (view_text path))
