-- Why moves are refused: the first move that isn't fine, in the first of the tests that it doesn't pass.
use Rattle.std.specs.Prelude.{◌≡◌, ◌⊎◌, ◌<◌, ℕ, List, length, slice_index_or, ⊤}
use Rattle.std.specs.List.{All}
use Rattle.relative_path_files.specs.Names.{IfName, IsPlainName}
use Rattle.relative_path_moves.specs.Moves.{Move, move_at, LacksFileName, IsFirstPair}
use Rattle.relative_path.specs.Steps.{Step}
use Rattle.relmove_checks.specs.declared.entry.Entry.{Entry}
use Rattle.relmove_checks.specs.declared.name_rule.NameRule.{NameRule}
use Rattle.relmove_checks.specs.declared.name_rule.NameRule.TheVariants.{Plain}
use Rattle.relmove_checks.specs.declared.refused.Barrier.{Barrier}
use Rattle.relmove_checks.specs.declared.refused.Barrier.TheVariants.{Files, UnreadDirectories}
use Rattle.relmove_checks.specs.declared.refusal.Refusal.{Refusal}
use Rattle.relmove_checks.specs.declared.refusal.Refusal.TheVariants.{NoFileName, LeavesRoot, IntoItself, NotPlain, ReservedName, SameOld, NotThere, ForeignName, SameNew, Taken, Collision, BelowFile, BelowUnread, OutOfMemory}
use Rattle.relmove_checks.specs.Moves as paths
use Rattle.relmove_checks.specs.Moves.{EachMove, IsPlaced, LeadsIntoItself, StaysOutside, HasNames, HasReservedName}
use Rattle.relmove_checks.specs.Trees.{IsNotThere, IsOldForeign, IsTaken, IsBelowSome, IsFirstCollision, is_barrier}

-- the refusal is of the first move that isn't fine
pub record IsOfFirst (Fine : Move → Type 0) (Refused : ℕ → Move → Refusal → Type 0) (moves : List Move)
    (refusal : Refusal) : Type 0 where
  pub number : ℕ
  pub within : number < length moves
  pub before : (j : ℕ) → j < number → Fine (move_at moves j)
  pub here : Refused number (move_at moves number) refusal

-- why the paths of move number k are refused by themselves: each test is tried after those above it
abbrev pub IsPathRefusal : NameRule → ℕ → Move → Refusal → Type 0
IsPathRefusal rule k move (NoFileName j) = (j ≡ k) × LacksFileName move
IsPathRefusal rule k move (LeavesRoot j) = (j ≡ k) × (¬ LacksFileName move) × paths.LeavesRoot move
IsPathRefusal rule k move (IntoItself j) = (j ≡ k) × IsPlaced move × LeadsIntoItself move
IsPathRefusal rule k move (NotPlain j) =
    (j ≡ k) × IsPlaced move × StaysOutside move × (rule ≡ Plain) × (¬ All (IfName IsPlainName) move.new)
IsPathRefusal rule k move (ReservedName j) =
    (j ≡ k) × IsPlaced move × StaysOutside move × HasNames rule move.new
    × (HasReservedName move.old ⊎ HasReservedName move.new)
IsPathRefusal rule k move _ = ⊥

-- why move number k is refused for what is at its old path
abbrev pub IsOldRefusal : List Entry → ℕ → Move → Refusal → Type 0
IsOldRefusal entries k move (NotThere j) = (j ≡ k) × IsNotThere entries move.old
IsOldRefusal entries k move (ForeignName j) = (j ≡ k) × IsOldForeign entries move.old
IsOldRefusal entries k move _ = ⊥

-- why move number k is refused for what is at its new path
abbrev pub IsNewRefusal : List Move → List Entry → ℕ → Move → Refusal → Type 0
IsNewRefusal moves entries k move (Taken j) = (j ≡ k) × IsTaken moves entries move.new
IsNewRefusal moves entries k move OutOfMemory = ⊤
IsNewRefusal moves entries k move _ = ⊥

-- why no table can be made of the moves
abbrev pub IsTableRefusal : List Move → Refusal → Type 0
IsTableRefusal moves (SameOld i j) = IsFirstPair moves i j
IsTableRefusal moves OutOfMemory = ⊤
IsTableRefusal moves _ = ⊥

-- why no table can be made of moves that were turned
abbrev pub IsSameNewRefusal : List Move → Refusal → Type 0
IsSameNewRefusal moves (SameNew i j) = IsFirstPair moves i j
IsSameNewRefusal moves OutOfMemory = ⊤
IsSameNewRefusal moves _ = ⊥

-- the two texts are the paths of the entries whose paths after the moves are the first to lead to the same place
pub record AreOfCollision (entries : List Entry) (paths : List (List Step)) (one other : List ℕ) : Type 0 where
  pub first : Entry
  pub second : Entry
  pub d : ℕ
  pub e : ℕ
  pub same : IsFirstCollision paths d e
  pub is_first : first ≡ slice_index_or entries d first
  pub is_second : second ≡ slice_index_or entries e second
  pub one_is : one ≡ first.path
  pub other_is : other ≡ second.path

-- why the paths after the moves are refused
abbrev pub IsCollisionRefusal : List Entry → List (List Step) → Refusal → Type 0
IsCollisionRefusal entries paths (Collision one other) = AreOfCollision entries paths one other
IsCollisionRefusal entries paths OutOfMemory = ⊤
IsCollisionRefusal entries paths _ = ⊥

-- the refusal of move number k, if its new path is below such a barrier
abbrev pub refusal_below : Barrier → ℕ → Refusal
refusal_below Files = BelowFile
refusal_below UnreadDirectories = BelowUnread

-- why move number k is refused for what is above its new path
abbrev pub IsAboveRefusal : Barrier → List Move → List Entry → ℕ → Move → Refusal → Type 0
IsAboveRefusal barrier moves entries k move refusal =
    (refusal ≡ refusal_below barrier k) × IsBelowSome (is_barrier barrier) moves entries move.new
