-- When moves are accepted, and why they are refused.
use Rattle.std.specs.Prelude.{◌≡◌, ℕ, List, map}
use Rattle.relative_path.specs.Steps.{components}
use Rattle.relative_path_moves.specs.Moves.{Move, AreApart, turned}
use Rattle.relmove_checks.specs.declared.entry.Entry.{Entry}
use Rattle.relmove_checks.specs.declared.name_rule.NameRule.{NameRule}
use Rattle.relmove_checks.specs.declared.refused.Barrier.TheVariants.{Files, UnreadDirectories}
use Rattle.relmove_checks.specs.declared.refusal.Refusal.{Refusal}
use Rattle.relmove_checks.specs.declared.refusal.Refusal.TheVariants.{OutOfMemory}
use Rattle.relmove_checks.specs.Moves.{EachMove, HasFinePaths}
use Rattle.relmove_checks.specs.Trees.{IsOldFine, IsFree, IsBelowNo, AreAfter, AreDistinct, is_file, is_unread}
use Rattle.relmove_checks.specs.Refusals.{IsOfFirst, IsPathRefusal, IsOldRefusal, IsNewRefusal, IsTableRefusal, IsSameNewRefusal, IsCollisionRefusal, IsAboveRefusal}

-- the moves leave from where something is, each from a place of its own
pub record MayLeave (entries : List Entry) (moves : List Move) (rule : NameRule) : Type 0 where
  pub paths : EachMove (HasFinePaths rule) moves
  pub apart : AreApart moves
  pub olds : EachMove (λ move. IsOldFine entries move.old) moves

-- and they come to where nothing stays, each to a place of its own
pub record MayCome (entries : List Entry) (moves : List Move) (rule : NameRule) : Type 0 where
  pub leave : MayLeave entries moves rule
  pub apart : AreApart (turned moves)
  pub free : EachMove (λ move. IsFree moves entries move.new) moves

-- and no two entries have the same path after the moves
pub record StayApart (entries : List Entry) (moves : List Move) (rule : NameRule) : Type 0 where
  pub come : MayCome entries moves rule
  pub after : List (List ℕ)
  pub are_after : AreAfter moves entries after
  pub distinct : AreDistinct (map components after)

-- and no new path is below what is, after the moves, a file, a symbolic link, or a directory that isn't read
pub record AreAllowed (entries : List Entry) (moves : List Move) (rule : NameRule) : Type 0 where
  pub apart : StayApart entries moves rule
  pub below_no_file : EachMove (λ move. IsBelowNo is_file moves entries move.new) moves
  pub below_no_unread : EachMove (λ move. IsBelowNo is_unread moves entries move.new) moves

-- the paths after the moves are refused
pub record Collide (entries : List Entry) (moves : List Move) (refusal : Refusal) : Type 0 where
  pub after : List (List ℕ)
  pub are_after : AreAfter moves entries after
  pub refused : IsCollisionRefusal entries (map components after) refusal

-- why the moves are refused: the tests in their order, each after those before it hold of all moves
pub data IsRefused (entries : List Entry) (moves : List Move) (rule : NameRule) (refusal : Refusal) : Type 0 where
  paths : IsOfFirst (HasFinePaths rule) (IsPathRefusal rule) moves refusal
      → IsRefused entries moves rule refusal
  same_old : EachMove (HasFinePaths rule) moves → IsTableRefusal moves refusal
      → IsRefused entries moves rule refusal
  olds : EachMove (HasFinePaths rule) moves → AreApart moves
      → IsOfFirst (λ move. IsOldFine entries move.old) (IsOldRefusal entries) moves refusal
      → IsRefused entries moves rule refusal
  same_new : MayLeave entries moves rule → IsSameNewRefusal (turned moves) refusal
      → IsRefused entries moves rule refusal
  news : MayLeave entries moves rule → AreApart (turned moves)
      → IsOfFirst (λ move. IsFree moves entries move.new) (IsNewRefusal moves entries) moves refusal
      → IsRefused entries moves rule refusal
  collision : MayCome entries moves rule → Collide entries moves refusal → IsRefused entries moves rule refusal
  below_file : StayApart entries moves rule
      → IsOfFirst (λ move. IsBelowNo is_file moves entries move.new) (IsAboveRefusal Files moves entries) moves refusal
      → IsRefused entries moves rule refusal
  below_unread : StayApart entries moves rule → EachMove (λ move. IsBelowNo is_file moves entries move.new) moves
      → IsOfFirst (λ move. IsBelowNo is_unread moves entries move.new) (IsAboveRefusal UnreadDirectories moves entries) moves
      refusal → IsRefused entries moves rule refusal
  memory : refusal ≡ OutOfMemory → IsRefused entries moves rule refusal

-- why the moves are refused that may leave
abbrev pub IsRefusedThere : List Entry → List Move → Refusal → Type 0
IsRefusedThere entries moves refusal =
    (rule : NameRule) → MayLeave entries moves rule → IsRefused entries moves rule refusal
