-- The answer to a line depends only on the fields that are read.
use Rattle.std.proofs.Common.{◌≡◌, ◌≢◌, ◌⊎◌, ℕ, ◌<◌, ◌==◌, true, false, List, [], ◌∷◌, ◌++◌, length, map, take, drop, get_or, codes, Bor, Bool, Some, None, Result, Ok, Err, OnOk, IsErrOf, ◌↔◌, inl, inr, refl, sym, ◌∙◌, arith, lit<, zero, suc, Option, MatchOption, MatchBool}
use Rattle.std.proofs.lemmas.Bool.{eq-eqb, ne_eqb}
use Rattle.std.proofs.lemmas.Bool.Decides.{eqb_tells}
use Rattle.std.proofs.lemmas.List.{length-map, length-take, drop-take, get_or-take}
use Rattle.relative_path.specs.Steps.{Step}
use Rattle.relative_path_moves.specs.declared.move_error.MoveError.{MoveError}
use Rattle.relative_path_moves.specs.declared.move_error.MoveError.TheVariants.{NoFileName, SameOld, AboveRoot, NoPath, OutOfMemory}
use Rattle.relative_path_moves.specs.MoveError.{Refuses}
use Rattle.relative_path_moves.specs.Moves.{Move as FileMove, AreNamed, AreApart, IsFirstNameless, IsFirstPair, ForFile, ClimbsAbove, BelowTop, IsBeyond}
use Rattle.relative_path_moves.specs.Reference.{IsAnswered}
use Rattle.relpath_lib.specs.Command.{Answers, AnswersFields, AnswersCommand, AnswersArguments, Adds, field, command_named, arity_of, words_answer}
use Rattle.relpath_lib.specs.declared.command.Command.{Command}
use Rattle.relpath_lib.specs.declared.command.Command.TheVariants.{Normalize, Join, Relative, TryRelative, RelativeTo, Move}
use Rattle.relpath_lib.specs.Lines.{fields_of}
use Rattle.relpath_lib.specs.declared.lines.TheConstants.{MAX_FIELDS}

same_count : (arguments : List (List ℕ)) (n : ℕ) → n < 4
    → (length arguments == n) ≡ (length (take 4 arguments) == n)
same_count arguments n l = tell (eqb_tells (length arguments) n) where
  tell : (((length arguments == n) ≡ true) × (length arguments ≡ n))
      ⊎ (((length arguments == n) ≡ false) × (length arguments ≢ n))
      → (length arguments == n) ≡ (length (take 4 arguments) == n)
  tell (inl (e, same)) = e ∙ sym (eq-eqb _ _ (omega (arith, length-take 4 arguments)))
  tell (inr (e, other)) = e ∙ sym (ne_eqb _ _ (λ same. other (omega (arith, length-take 4 arguments))))

same_field : (arguments : List (List ℕ)) (n : ℕ) → n < 4 → field arguments n ≡ field (take 4 arguments) n
same_field arguments n l = sym (get_or-take 4 arguments n [] l)

AnswersArguments-take : (command : Command) (arguments : List (List ℕ)) (answer : List ℕ)
    → AnswersArguments command (take 4 arguments) answer → AnswersArguments command arguments answer
AnswersArguments-take Normalize arguments answer a = rw (same_field arguments 0 (lit< tt)) a
AnswersArguments-take Join arguments answer a =
    rw (same_field arguments 0 (lit< tt), same_field arguments 1 (lit< tt)) a
AnswersArguments-take Relative arguments answer a =
    rw (same_field arguments 0 (lit< tt), same_field arguments 1 (lit< tt)) a
AnswersArguments-take TryRelative arguments answer a =
    rw (same_field arguments 0 (lit< tt), same_field arguments 1 (lit< tt)) a
AnswersArguments-take RelativeTo arguments answer a =
    rw (same_field arguments 0 (lit< tt), same_field arguments 1 (lit< tt)) a
AnswersArguments-take Move arguments answer a =
    rw (same_field arguments 0 (lit< tt), same_field arguments 1 (lit< tt), same_field arguments 2 (lit< tt)) a

arity_of_lt : (command : Command) → arity_of command < 4
arity_of_lt Normalize = lit< tt
arity_of_lt Join = lit< tt
arity_of_lt Relative = lit< tt
arity_of_lt TryRelative = lit< tt
arity_of_lt RelativeTo = lit< tt
arity_of_lt Move = lit< tt

-- the answer to these arguments, for a command that exists or doesn't
abbrev AnswersNamed : Option Command → List (List ℕ) → List ℕ → Type 0
AnswersNamed named arguments answer =
    MatchOption named (answer ≡ words_answer (codes "unknown command"))
    (λ command. MatchBool (length arguments == arity_of command) (AnswersArguments command arguments answer)
    (answer ≡ words_answer (codes "wrong number of fields")))

AnswersNamed-take : (named : Option Command) (arguments : List (List ℕ)) (answer : List ℕ)
    → AnswersNamed named (take 4 arguments) answer → AnswersNamed named arguments answer
AnswersNamed-take None arguments answer a = a
AnswersNamed-take (Some command) arguments answer a =
    counted (length arguments == arity_of command)
    (rw (sym (same_count arguments (arity_of command) (arity_of_lt command))) at a)
  where
    counted : (b : Bool)
        → MatchBool b (AnswersArguments command (take 4 arguments) answer) (answer ≡ words_answer (codes "wrong number of fields"))
        → MatchBool b (AnswersArguments command arguments answer) (answer ≡ words_answer (codes "wrong number of fields"))
    counted true shown = AnswersArguments-take command arguments answer shown
    counted false wrong = wrong

AnswersCommand-take : (command : List ℕ) (arguments : List (List ℕ)) (answer : List ℕ)
    → AnswersCommand command (take 4 arguments) answer → AnswersCommand command arguments answer
AnswersCommand-take command = AnswersNamed-take (command_named command)

AnswersFields-take : (fields : List (List ℕ)) (answer : List ℕ)
    → AnswersFields (take MAX_FIELDS fields) answer → AnswersFields fields answer
AnswersFields-take fields answer a =
    AnswersCommand-take (field fields 0) (drop 1 fields) answer
    (rw (sym (drop-take 1 4 fields), sym (get_or-take MAX_FIELDS fields 0 [] (lit< tt))) a)

-- the answer to the command and the arguments that are read is the answer to the line
pub Adds-take : {E : Type 0} (line : List ℕ) (shown : List (Bor (List ℕ))) (none : Bor (List ℕ))
    (r : Result (Unit {0}) E) (old new : List ℕ)
    → map (λ field. field.now) shown ≡ take MAX_FIELDS (fields_of line) → 0 < length shown
    → OnOk r (Adds (AnswersCommand (get_or shown 0 none).now (map (λ field. field.now) (drop 1 shown))) old new)
    → OnOk r (Adds (Answers line) old new)
Adds-take line [] none r old new e some adds = absurd (omega arith)
Adds-take line (command ∷ arguments) none (Err x) old new e some adds = tt
Adds-take line (command ∷ arguments) none (Ok u) old new e some (added, a, grew) =
    (added, AnswersFields-take (fields_of line) added (rw (sym e) a), grew)

-- the answer to two arguments, from what is known if the call succeeds
pub Adds-two : {E : Type 0} (P : List ℕ → List ℕ → List ℕ → Type 0) (r : Result (Unit {0}) E) (known : Type 0)
    (old new first second a b answer : List ℕ) → a ≡ first → b ≡ second → (known → P a b answer)
    → OnOk r (known × (new ≡ old ++ answer)) → OnOk r (Adds (P first second) old new)
Adds-two P (Err x) known old new first second a b answer e f holds added = tt
Adds-two P (Ok u) known old new first second a b answer e f holds (is, added) =
    (answer, rw (sym e, sym f) (holds is), added)

-- the answer to three arguments, from what is known if the call succeeds
pub Adds-three : {E : Type 0} (P : List ℕ → List ℕ → List ℕ → List ℕ → Type 0) (r : Result (Unit {0}) E)
    (known : Type 0) (old new first second third a b c answer : List ℕ) → a ≡ first → b ≡ second → c ≡ third
    → (known → P a b c answer) → OnOk r (known × (new ≡ old ++ answer))
    → OnOk r (Adds (P first second third) old new)
Adds-three P (Err x) known old new first second third a b c answer e f g holds added = tt
Adds-three P (Ok u) known old new first second third a b c answer e f g holds (is, added) =
    (answer, rw (sym e, sym f, sym g) (holds is), added)

-- a fact about the result of a call, without its case
pub OnOk-known : {E : Type 0} (X : Type 0) (r : Result (Unit {0}) E) → OnOk r X → OnOk r (Unit {0} × X)
OnOk-known X (Err x) h = tt
OnOk-known X (Ok u) h = (tt, h)

-- the answer to a command with another number of arguments
pub Adds-miscounted : {E : Type 0} (name : List ℕ) (found : Option Command) (command : Command)
    (arguments : List (Bor (List ℕ))) (r : Result (Unit {0}) E) (old new : List ℕ)
    → found ≡ command_named name → found ≡ Some command → length arguments ≢ arity_of command
    → OnOk r (new ≡ old ++ words_answer (codes "wrong number of fields"))
    → OnOk r (Adds (AnswersCommand name (map (λ field. field.now) arguments)) old new)
Adds-miscounted name found command arguments (Err x) old new is known other added = tt
Adds-miscounted name found command arguments (Ok u) old new is known other added =
    let mapped = length-map arguments (λ field. field.now) in
    let differs = ne_eqb (length (map (λ field. field.now) arguments)) (arity_of command)
    (λ e. other (omega (arith, mapped, e))) in
    (words_answer (codes "wrong number of fields"), rw (sym is ∙ known, differs) refl, added)

-- one of the arguments
pub field-map : (arguments : List (Bor (List ℕ))) (n : ℕ) (none : Bor (List ℕ)) → n < length arguments
    → field (map (λ argument. argument.now) arguments) n ≡ (get_or arguments n none).now
field-map [] n none inside = absurd (omega arith)
field-map (x ∷ xs) zero none inside = refl
field-map (x ∷ xs) (suc n) none inside = field-map xs n none (omega arith)

-- an error other than a failed allocation is the answer
pub IsAnswered-refused : {T : Type 0} (moves : List FileMove) (i : ℕ) (reference : List Step) (e : MoveError)
    → e ≢ OutOfMemory
    → ((k : ℕ) → IsErrOf {T = T} (Err e) (NoFileName k) ↔ IsFirstNameless moves k)
    → ((j k : ℕ) → Refuses {T = T} (Err e) (SameOld j k) OutOfMemory (AreNamed moves × IsFirstPair moves j k))
    → Refuses {T = T} (Err e) AboveRoot OutOfMemory (AreNamed moves × AreApart moves × ForFile moves i reference ClimbsAbove)
    → Refuses {T = T} (Err e) NoPath OutOfMemory
    (AreNamed moves × AreApart moves × ForFile moves i reference (BelowTop (IsBeyond moves i)))
    → IsAnswered moves i reference (Err e)
IsAnswered-refused moves i reference (NoFileName k) some lacks pair above beyond = (lacks k).0 refl
IsAnswered-refused moves i reference (SameOld j k) some lacks pair above beyond = (pair j k).only refl
IsAnswered-refused moves i reference AboveRoot some lacks pair above beyond = above.only refl
IsAnswered-refused moves i reference NoPath some lacks pair above beyond = beyond.only refl
IsAnswered-refused moves i reference OutOfMemory some lacks pair above beyond = absurd (some refl)
