-- The contract of `moved`, derived from the contracts of the table.
use Rattle.std.proofs.Common.{◌≡◌, ◌≢◌, ◌⊎◌, ◌↔◌, ℕ, Result, Ok, Err, IsErrAnd, IsErrOf, List, inl, inr, refl, ap}
use Rattle.relative_path_moves.specs.declared.move_error.MoveError.{MoveError}
use Rattle.relative_path_moves.specs.declared.move_error.MoveError.TheVariants.{NoFileName, SameOld, AboveRoot, NoPath, OutOfMemory}
use Rattle.relative_path_moves.specs.declared.move_error.MoveTableError.{MoveTableError}
use Rattle.relative_path_moves.specs.declared.move_error.MoveTableError.TheVariants as moves_error
use Rattle.relative_path_moves.specs.declared.move_error.ReferenceError.{ReferenceError}
use Rattle.relative_path_moves.specs.declared.move_error.ReferenceError.TheVariants as reference_error
use Rattle.relative_path_moves.specs.Moves.{Move, AreNamed, AreApart, IsFirstNameless, IsFirstPair}
use Rattle.relative_path_moves.specs.MoveError.{Refuses, of_moves, of_reference}

-- the error of a result that is an error
pub is_err_of : {T E : Type 0} (r : Result T E) (e : E) → IsErrAnd r (λ f. f ≡ e) → r ≡ Err e
is_err_of (Ok x) e is = absurd is
is_err_of (Err f) e is = ap Err is

-- ---- making the table fails

-- the error for a file name names the same move
pub no_file_name-moves : {S T : Type 0} (moves : List Move) (e : MoveTableError) (k : ℕ)
    → IsErrOf {T = S} (Err e) (moves_error.NoFileName k) ↔ IsFirstNameless moves k
    → IsErrOf {T = T} (Err (of_moves e)) (NoFileName k) ↔ IsFirstNameless moves k
no_file_name-moves moves (moves_error.NoFileName j) k lacks = (λ is. lacks.0 (cc is), λ first. cc (lacks.1 first))
no_file_name-moves moves (moves_error.SameOld i j) k lacks =
    (λ is. absurd (cc is), λ first. absurd (cc (lacks.1 first)))
no_file_name-moves moves moves_error.OutOfMemory k lacks =
    (λ is. absurd (cc is), λ first. absurd (cc (lacks.1 first)))

-- the error for two old paths names the same moves
pub same_old-moves : {S T : Type 0} (e : MoveTableError) (j k : ℕ) (case : Type 0)
    → Refuses {T = S} (Err e) (moves_error.SameOld j k) moves_error.OutOfMemory case
    → Refuses {T = T} (Err (of_moves e)) (SameOld j k) OutOfMemory case
same_old-moves {S = S} {T = T} e j k case refuses =
    record { only = λ is. refuses.only (back e is); always = λ holds. forth e (refuses.always holds) } where
      back : (e : MoveTableError) → IsErrOf {T = T} (Err (of_moves e)) (SameOld j k)
          → IsErrOf {T = S} (Err e) (moves_error.SameOld j k)
      back (moves_error.NoFileName i) is = absurd (cc is)
      back (moves_error.SameOld a b) is = cc is
      back moves_error.OutOfMemory is = absurd (cc is)

      forth : (e : MoveTableError)
          → IsErrOf {T = S} (Err e) (moves_error.SameOld j k) ⊎ IsErrOf {T = S} (Err e) moves_error.OutOfMemory
          → IsErrOf {T = T} (Err (of_moves e)) (SameOld j k) ⊎ IsErrOf {T = T} (Err (of_moves e)) OutOfMemory
      forth e (inl is) = inl (cc is)
      forth e (inr is) = inr (cc is)

-- no error of the reference is returned, and no result either
pub Refuses-moves : {S T : Type 0} (moves : List Move) (e : MoveTableError) (refusal : MoveError) (P : Type 0)
    → of_moves e ≢ refusal
    → ((k : ℕ) → IsErrOf {T = S} (Err e) (moves_error.NoFileName k) ↔ IsFirstNameless moves k)
    → ((j k : ℕ) → Refuses {T = S} (Err e) (moves_error.SameOld j k) moves_error.OutOfMemory
    (AreNamed moves × IsFirstPair moves j k))
    → Refuses {T = T} (Err (of_moves e)) refusal OutOfMemory (AreNamed moves × AreApart moves × P)
Refuses-moves {S = S} {T = T} moves e refusal P other lacks pair =
    record { only = λ is. absurd (other (cc is)); always = λ holds. inr (tell e lacks pair holds) } where
      tell : (e : MoveTableError)
          → ((k : ℕ) → IsErrOf {T = S} (Err e) (moves_error.NoFileName k) ↔ IsFirstNameless moves k)
          → ((j k : ℕ) → Refuses {T = S} (Err e) (moves_error.SameOld j k) moves_error.OutOfMemory
          (AreNamed moves × IsFirstPair moves j k))
          → AreNamed moves × AreApart moves × P → IsErrOf {T = T} (Err (of_moves e)) OutOfMemory
      tell (moves_error.NoFileName k) lacks pair (all_named, apart, holds) =
          let first = (lacks k).0 refl in absurd (all_named k first.within first.lacks)
      tell (moves_error.SameOld j k) lacks pair (all_named, apart, holds) =
          absurd (apart j k ((pair j k).only refl).1.pair)
      tell moves_error.OutOfMemory lacks pair holds = refl

-- ---- the table is made, and the reference fails

-- `moved` returns an error if the table does
pub Refuses-reference : {S T : Type 0} (moves : List Move) (e f : ReferenceError) (P : Type 0)
    → AreNamed moves → AreApart moves → Refuses {T = S} (Err e) f reference_error.OutOfMemory P
    → Refuses {T = T} (Err (of_reference e)) (of_reference f) OutOfMemory (AreNamed moves × AreApart moves × P)
Refuses-reference {S = S} {T = T} moves e f P all_named apart refuses = record {
  only = λ is. (all_named, apart, refuses.only (back e f is));
  always = λ (all_named_2, apart_2, holds). elim (refuses.always holds) [
    | inl is ↦ inl (cc is)
    | inr is ↦ inr (cc is)
  ];
} where
  back : (e f : ReferenceError) → IsErrOf {T = T} (Err (of_reference e)) (of_reference f) → IsErrOf {T = S} (Err e) f
  back reference_error.AboveRoot reference_error.AboveRoot is = refl
  back reference_error.AboveRoot reference_error.NoPath is = absurd (cc is)
  back reference_error.AboveRoot reference_error.OutOfMemory is = absurd (cc is)
  back reference_error.NoPath reference_error.AboveRoot is = absurd (cc is)
  back reference_error.NoPath reference_error.NoPath is = refl
  back reference_error.NoPath reference_error.OutOfMemory is = absurd (cc is)
  back reference_error.OutOfMemory reference_error.AboveRoot is = absurd (cc is)
  back reference_error.OutOfMemory reference_error.NoPath is = absurd (cc is)
  back reference_error.OutOfMemory reference_error.OutOfMemory is = refl

-- `moved` returns no error if the table returns none
pub Refuses-ok : {T : Type 0} (moves : List Move) (way : T) (f : ReferenceError) (P : Type 0)
    → Refuses (Ok way) f reference_error.OutOfMemory P
    → Refuses (Ok way) (of_reference f) OutOfMemory (AreNamed moves × AreApart moves × P)
Refuses-ok moves way f P refuses = record {
  only = λ is. absurd (cc is);
  always = λ (all_named, apart, holds). elim (refuses.always holds) [
    | inl is ↦ absurd (cc is)
    | inr is ↦ absurd (cc is)
  ];
}

-- no error for a file name is returned
pub no_file_name-ok : {T : Type 0} (moves : List Move) (way : T) (k : ℕ) → AreNamed moves
    → IsErrOf (Ok way) (NoFileName k) ↔ IsFirstNameless moves k
no_file_name-ok moves way k all_named =
    (λ is. absurd (cc is), λ first. absurd (all_named k first.within first.lacks))

-- no error of the moves is returned
pub not_above : (e : MoveTableError) → of_moves e ≢ AboveRoot
not_above (moves_error.NoFileName k) is = cc is
not_above (moves_error.SameOld j k) is = cc is
not_above moves_error.OutOfMemory is = cc is

pub not_beyond : (e : MoveTableError) → of_moves e ≢ NoPath
not_beyond (moves_error.NoFileName k) is = cc is
not_beyond (moves_error.SameOld j k) is = cc is
not_beyond moves_error.OutOfMemory is = cc is
