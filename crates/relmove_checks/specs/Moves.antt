-- Moves whose paths may not be taken, whatever the tree is.
use Rattle.std.specs.Prelude.{◌≡◌, ◌⊎◌, ◌<◌, ℕ, nat_eq, Bool, true, false, List, length, codes, None, IsSome}
use Rattle.std.specs.List.{All, list_any, starts_with}
use Rattle.relative_path.specs.Steps.{Step, cur, up, name, components}
use Rattle.relative_path.specs.Walk.{place_of}
use Rattle.relative_path.specs.Normalizing.{IsNormalTextOf}
use Rattle.relative_path.specs.Prefixing.{StartsWith}
use Rattle.relative_path_files.specs.Names.{IfName, IsPlainName}
use Rattle.relative_path_moves.specs.Moves.{Move, move_at, LacksFileName}
use Rattle.relmove_checks.specs.declared.name_rule.NameRule.{NameRule}
use Rattle.relmove_checks.specs.declared.name_rule.NameRule.TheVariants.{Any}

-- the move of a file from the old components to the new ones
abbrev pub move_of : List Step → List Step → Move
move_of old new = record { old = old; new = new }

-- P holds of each move
abbrev pub EachMove : (Move → Type 0) → List Move → Type 0
EachMove P moves = (k : ℕ) → k < length moves → P (move_at moves k)

-- both paths have a file name and lead to a place from the top
pub record IsPlaced (move : Move) : Type 0 where
  pub named : ¬ LacksFileName move
  pub old : IsSome (place_of move.old)
  pub new : IsSome (place_of move.new)

-- a path leads above the root
abbrev pub LeavesRoot : Move → Type 0
LeavesRoot move = (place_of move.old ≡ None) ⊎ (place_of move.new ≡ None)

-- P holds of the normal components of the old and of the new path
abbrev pub OnNormal : (List Step → List Step → Type 0) → Move → Type 0
OnNormal P move = (old : List ℕ) × (new : List ℕ) × IsNormalTextOf move.old old × IsNormalTextOf move.new new
    × P (components old) (components new)

-- the new path is the old one, or below it
abbrev pub LeadsIntoItself : Move → Type 0
LeadsIntoItself = OnNormal (λ old new. StartsWith new old)

-- the new path isn't the old one, nor below it
abbrev pub StaysOutside : Move → Type 0
StaysOutside = OnNormal (λ old new. ¬ StartsWith new old)

-- the component is a name that begins as those of a run's own files
abbrev pub is_reserved_step : Step → Bool
is_reserved_step cur = false
is_reserved_step up = false
is_reserved_step (name n) = starts_with nat_eq n (codes ".relmove")

-- any name is allowed, or all names of the components are plain
abbrev pub HasNames : NameRule → List Step → Type 0
HasNames rule cs = (rule ≡ Any) ⊎ All (IfName IsPlainName) cs

-- a component is a name that begins as those of a run's own files
abbrev pub HasReservedName : List Step → Type 0
HasReservedName cs = list_any is_reserved_step cs ≡ true

-- no component is such a name
abbrev pub HasNoReservedName : List Step → Type 0
HasNoReservedName cs = list_any is_reserved_step cs ≡ false

-- the paths of the move may be taken, whatever the tree is
pub record HasFinePaths (rule : NameRule) (move : Move) : Type 0 where
  pub placed : IsPlaced move
  pub outside : StaysOutside move
  pub names : HasNames rule move.new
  pub not_reserved_old : HasNoReservedName move.old
  pub not_reserved_new : HasNoReservedName move.new
