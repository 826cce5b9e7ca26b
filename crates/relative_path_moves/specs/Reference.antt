-- In which case a text or an error is the result of `moved`.
use Rattle.std.specs.Prelude.{ℕ, List, Result, Ok, Err}
use Rattle.relative_path.specs.Steps.{Step}
use Rattle.relative_path_moves.specs.declared.move_error.MoveError.{MoveError}
use Rattle.relative_path_moves.specs.declared.move_error.MoveError.TheVariants.{NoFileName, SameOld, AboveRoot, NoPath, OutOfMemory}
use Rattle.relative_path_moves.specs.Moves.{Move, AreNamed, AreApart, IsFirstNameless, IsFirstPair, ForFile, ClimbsAbove, BelowTop, IsBeyond, IsMovedText}

-- the case in which this text or this error is the result; a failed allocation is no result
abbrev pub IsAnswered : List Move → ℕ → List Step → Result (List ℕ) MoveError → Type 0
IsAnswered moves i reference (Ok text) =
    AreNamed moves × AreApart moves × ForFile moves i reference (BelowTop (IsMovedText moves i text))
IsAnswered moves i reference (Err (NoFileName k)) = IsFirstNameless moves k
IsAnswered moves i reference (Err (SameOld j k)) = AreNamed moves × IsFirstPair moves j k
IsAnswered moves i reference (Err AboveRoot) =
    AreNamed moves × AreApart moves × ForFile moves i reference ClimbsAbove
IsAnswered moves i reference (Err NoPath) =
    AreNamed moves × AreApart moves × ForFile moves i reference (BelowTop (IsBeyond moves i))
IsAnswered moves i reference (Err OutOfMemory) = ⊥
