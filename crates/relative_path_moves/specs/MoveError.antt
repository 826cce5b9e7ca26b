-- Errors of moves and of references: in which case a call fails with an error, and what the error prints.
use Rattle.std.specs.Prelude.{◌⊎◌, ℕ, List, ◌++◌, codes, decimal, Result, IsErrOf}
use Rattle.relative_path_moves.specs.declared.move_error.MoveError.{MoveError}
use Rattle.relative_path_moves.specs.declared.move_error.MoveError.TheVariants.{NoFileName, SameOld, AboveRoot, NoPath, OutOfMemory}
use Rattle.relative_path_moves.specs.declared.move_error.MoveTableError.{MoveTableError}
use Rattle.relative_path_moves.specs.declared.move_error.MoveTableError.TheVariants as moves
use Rattle.relative_path_moves.specs.declared.move_error.ReferenceError.{ReferenceError}
use Rattle.relative_path_moves.specs.declared.move_error.ReferenceError.TheVariants as reference

-- the result is this error only in this case; and in this case it is this error or the one for a failed allocation
pub record Refuses {T E : Type 0} (result : Result T E) (refusal memory : E) (case : Type 0) : Type 0 where
  pub only : IsErrOf result refusal → case
  pub always : case → IsErrOf result refusal ⊎ IsErrOf result memory

-- an error of the moves, as an error of `moved`
abbrev pub of_moves : MoveTableError → MoveError
of_moves (moves.NoFileName k) = NoFileName k
of_moves (moves.SameOld j k) = SameOld j k
of_moves moves.OutOfMemory = OutOfMemory

-- an error of the reference, as an error of `moved`
abbrev pub of_reference : ReferenceError → MoveError
of_reference reference.AboveRoot = AboveRoot
of_reference reference.NoPath = NoPath
of_reference reference.OutOfMemory = OutOfMemory

-- what an error prints
abbrev pub refusal_text : MoveError → List ℕ
refusal_text (NoFileName k) = codes "move " ++ decimal k ++ codes " lacks a file name"
refusal_text (SameOld j k) =
    codes "moves " ++ decimal j ++ codes " and " ++ decimal k ++ codes " have the same old path"
refusal_text AboveRoot = codes "reference climbs above the root"
refusal_text NoPath = codes "no path"
refusal_text OutOfMemory = codes "out of memory"
