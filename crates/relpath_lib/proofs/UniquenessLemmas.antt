-- Each input has at most one output, since each command has at most one answer.
use Rattle.std.proofs.Common.{◌≡◌, Option, Some, None, MatchOption, ℕ, ◌<◌, ◌≤◌, Result, Ok, Err, Bool, true, false, List, [], ◌∷◌, ◌++◌, ◌⊎◌, length, drop, codes, MatchBool, ◌==◌, inl, inr, refl, sym, ap, ◌∙◌, arith, true≢false}
use Rattle.std.specs.Str.{bytes_eq}
use Rattle.std.proofs.lemmas.Slice.Eq.{bytes_eq-Decides}
use Rattle.std.proofs.lemmas.Bool.{cases_order}
use Rattle.relative_path.specs.Steps.{Step, components, spell}
use Rattle.relative_path.specs.Unix.{way_to}
use Rattle.relative_path.specs.Error.{relative_to_words}
use Rattle.relative_path.specs.declared.error.RelativeToErrorKind.TheVariants.{AmbiguousTraversal}
use Rattle.relative_path.specs.Normalizing.{IsNormalTextOf}
use Rattle.relative_path.specs.Relating.{IsReachable, IsShortestText, IsWayText}
use Rattle.relpath_lib.specs.Command.{path_answer, words_answer, GivesPath, TellsWay, field, command_named, arity_of, AnswersRelativeTo, AnswersArguments, AnswersCommand, TellsMoved, moved_answer, one_move}
use Rattle.relpath_lib.specs.declared.command.Command.{Command}
use Rattle.relpath_lib.specs.declared.command.Command.TheVariants.{Normalize, Join, Relative, TryRelative, RelativeTo, Move}
use Rattle.relative_path_moves.specs.Moves.{Move as FileMove, ForFile, ClimbsAbove, BelowTop, IsBeyond, IsMovedText, AreNamed, AreApart, IsFirstNameless, IsFirstPair}
use Rattle.relative_path_moves.proofs.ForCallers.{IsPathAfter-only}
use Rattle.relative_path_moves.specs.Reference.{IsAnswered}
use Rattle.relative_path_moves.specs.declared.move_error.MoveError.{MoveError}
use Rattle.relative_path_moves.specs.declared.move_error.MoveError.TheVariants.{NoFileName, SameOld, AboveRoot, NoPath, OutOfMemory}
use Rattle.relpath_lib.specs.Lines.{line_feed, lines_of, fields_of}
use Rattle.relpath_lib.specs.Output.{AnswersLines, IsOutput}

-- any two texts with the property are the same
abbrev pub IsOfOne : (List ℕ → Type 0) → Type 0
IsOfOne P = (one other : List ℕ) → P one → P other → other ≡ one

is-IsOfOne : (text : List ℕ) → IsOfOne (λ answer. answer ≡ text)
is-IsOfOne text one other e f = f ∙ sym e

MatchBool-IsOfOne : (b : Bool) (P Q : List ℕ → Type 0) → IsOfOne P → IsOfOne Q
    → IsOfOne (λ answer. MatchBool b (P answer) (Q answer))
MatchBool-IsOfOne true P Q p q = p
MatchBool-IsOfOne false P Q p q = q

GivesPath-IsOfOne : (P : List ℕ → Type 0) → IsOfOne P → IsOfOne (GivesPath P)
GivesPath-IsOfOne P p one other (text, holds, e) (text_2, holds_2, f) =
    f ∙ ap path_answer (p text text_2 holds holds_2) ∙ sym e

IsNormalTextOf-IsOfOne : (cs : List Step) → IsOfOne (IsNormalTextOf cs)
IsNormalTextOf-IsOfOne cs one other h k = h.only other k.normal_text k.same

-- there is one shortest list, and one text that spells it
IsShortestText-IsOfOne : (f t : List Step) → IsOfOne (IsShortestText f t)
IsShortestText-IsOfOne f t one other h k =
    k.spelled ∙ ap spell (same (h.shortest.shortest (components other) k.shortest.leads)
    (k.shortest.shortest (components one) h.shortest.leads)) ∙ sym h.spelled where
      same : (length (components one) < length (components other)) ⊎ (components other ≡ components one)
          → (length (components other) < length (components one)) ⊎ (components one ≡ components other)
          → components other ≡ components one
      same (inr e) longer = e
      same (inl l) (inr e) = sym e
      same (inl l) (inl m) = absurd (omega arith)

IsWayText-IsOfOne : (f t : List Step) → IsOfOne (IsWayText f t)
IsWayText-IsOfOne f t one other h k = tell (bytes_eq other one) (bytes_eq-Decides other one) where
  tell : (b : Bool) → ((b ≡ true → other ≡ one) × (other ≡ one → b ≡ true)) → other ≡ one
  tell true (is, _) = is refl
  tell false (_, isnt) =
      let none : ¬ IsReachable f t = λ leads. absurd (true≢false (sym (isnt
      (IsShortestText-IsOfOne f t one other (h.shortest leads) (k.shortest leads))))) in
      k.unreachable none ∙ sym (h.unreachable none)

TellsWay-IsOfOne : (f t : List Step) → IsOfOne (TellsWay f t)
TellsWay-IsOfOne f t one other (inl gives) (inl gives_2) =
    GivesPath-IsOfOne (IsShortestText f t) (IsShortestText-IsOfOne f t) one other gives gives_2
TellsWay-IsOfOne f t one other (inl (text, way, e)) (inr (none, f_2)) =
    absurd (none (components text, way.shortest.leads))
TellsWay-IsOfOne f t one other (inr (none, e)) (inl (text, way, f_2)) =
    absurd (none (components text, way.shortest.leads))
TellsWay-IsOfOne f t one other (inr (none, e)) (inr (none_2, f_2)) = f_2 ∙ sym e

-- if no two moves have the same old path, two targets of a reference are the same
ForFile-both : (moves : List FileMove) (i : ℕ) (reference : List Step) (P Q : List Step → Type 0) → AreApart moves
    → ForFile moves i reference P → ForFile moves i reference Q → (target : List Step) × P target × Q target
ForFile-both moves i reference P Q apart (target, is, p) (other, other_is, q) =
    (target, p, rw (sym (IsPathAfter-only moves _ target other apart is other_is)) q)

IsFirstNameless-only : (moves : List FileMove) (j k : ℕ) → IsFirstNameless moves j → IsFirstNameless moves k → k ≡ j
IsFirstNameless-only moves j k first second = elim (cases_order j k) [
  | inl same ↦ sym same
  | inr (inl less) ↦ absurd (second.first j less first.lacks)
  | inr (inr more) ↦ absurd (first.first k more second.lacks)
]

IsFirstPair-only : (moves : List FileMove) (j k a b : ℕ) → IsFirstPair moves j k → IsFirstPair moves a b
    → (a ≡ j) × (b ≡ k)
IsFirstPair-only moves j k a b first second = tell (first.first a b second.pair) (second.first j k first.pair) where
  tell : (j < a) ⊎ (j ≡ a) × (k ≤ b) → (a < j) ⊎ (a ≡ j) × (b ≤ k) → (a ≡ j) × (b ≡ k)
  tell (inl less) (inl more) = absurd (omega arith)
  tell (inl less) (inr same) = absurd (omega (arith, same.0))
  tell (inr same) (inl more) = absurd (omega (arith, same.0))
  tell (inr same) (inr same_2) = (same_2.0, omega (arith, same.1, same_2.1))

unnamed : (moves : List FileMove) (k : ℕ) → AreNamed moves → IsFirstNameless moves k → ⊥
unnamed moves k all_named first = all_named k first.within first.lacks

-- the moves and a reference have one result
IsAnswered-only : (moves : List FileMove) (i : ℕ) (reference : List Step) (one other : Result (List ℕ) MoveError)
    → IsAnswered moves i reference one → IsAnswered moves i reference other → other ≡ one
IsAnswered-only moves i reference (Err (NoFileName j)) (Err (NoFileName k)) h n =
    ap (λ k. Err (NoFileName k)) (IsFirstNameless-only moves j k h n)
IsAnswered-only moves i reference (Err (NoFileName k)) (Err (SameOld a b)) h n = absurd (unnamed moves k n.0 h)
IsAnswered-only moves i reference (Err (NoFileName k)) (Err AboveRoot) h n = absurd (unnamed moves k n.0 h)
IsAnswered-only moves i reference (Err (NoFileName k)) (Err NoPath) h n = absurd (unnamed moves k n.0 h)
IsAnswered-only moves i reference (Err (NoFileName k)) (Err OutOfMemory) h n = absurd n
IsAnswered-only moves i reference (Err (NoFileName k)) (Ok text) h n = absurd (unnamed moves k n.0 h)
IsAnswered-only moves i reference (Err (SameOld j k)) (Err (NoFileName m)) h n = absurd (unnamed moves m h.0 n)
IsAnswered-only moves i reference (Err (SameOld j k)) (Err (SameOld a b)) h n =
    let same = IsFirstPair-only moves j k a b h.1 n.1 in
    ap (λ a. Err (SameOld a b)) same.0 ∙ ap (λ b. Err (SameOld j b)) same.1
IsAnswered-only moves i reference (Err (SameOld j k)) (Err AboveRoot) h n = absurd (n.1 j k h.1.pair)
IsAnswered-only moves i reference (Err (SameOld j k)) (Err NoPath) h n = absurd (n.1 j k h.1.pair)
IsAnswered-only moves i reference (Err (SameOld j k)) (Err OutOfMemory) h n = absurd n
IsAnswered-only moves i reference (Err (SameOld j k)) (Ok text) h n = absurd (n.1 j k h.1.pair)
IsAnswered-only moves i reference (Err AboveRoot) (Err (NoFileName m)) h n = absurd (unnamed moves m h.0 n)
IsAnswered-only moves i reference (Err AboveRoot) (Err (SameOld a b)) h n = absurd (h.1 a b n.1.pair)
IsAnswered-only moves i reference (Err AboveRoot) (Err AboveRoot) h n = refl
IsAnswered-only moves i reference (Err AboveRoot) (Err NoPath) (named, apart, h) (named_2, apart_2, n) =
    let (target, none, below) = ForFile-both moves i reference ClimbsAbove _ apart h n in absurd (below.0 none)
IsAnswered-only moves i reference (Err AboveRoot) (Err OutOfMemory) h n = absurd n
IsAnswered-only moves i reference (Err AboveRoot) (Ok text) (named, apart, h) (named_2, apart_2, n) =
    let (target, none, below) = ForFile-both moves i reference ClimbsAbove _ apart h n in absurd (below.0 none)
IsAnswered-only moves i reference (Err NoPath) (Err (NoFileName m)) h n = absurd (unnamed moves m h.0 n)
IsAnswered-only moves i reference (Err NoPath) (Err (SameOld a b)) h n = absurd (h.1 a b n.1.pair)
IsAnswered-only moves i reference (Err NoPath) (Err AboveRoot) (named, apart, h) (named_2, apart_2, n) =
    let (target, none, below) = ForFile-both moves i reference ClimbsAbove _ apart n h in absurd (below.0 none)
IsAnswered-only moves i reference (Err NoPath) (Err NoPath) h n = refl
IsAnswered-only moves i reference (Err NoPath) (Err OutOfMemory) h n = absurd n
IsAnswered-only moves i reference (Err NoPath) (Ok text) (named, apart, h) (named_2, apart_2, n) =
    let (target, beyond, way) = ForFile-both moves i reference (BelowTop (IsBeyond moves i)) _ apart h n in
    absurd (beyond.1 (components text, way.1.shortest.leads))
IsAnswered-only moves i reference (Err OutOfMemory) other h n = absurd h
IsAnswered-only moves i reference (Ok text) (Err (NoFileName m)) h n = absurd (unnamed moves m h.0 n)
IsAnswered-only moves i reference (Ok text) (Err (SameOld a b)) h n = absurd (h.1 a b n.1.pair)
IsAnswered-only moves i reference (Ok text) (Err AboveRoot) (named, apart, h) (named_2, apart_2, n) =
    let (target, none, below) = ForFile-both moves i reference ClimbsAbove _ apart n h in absurd (below.0 none)
IsAnswered-only moves i reference (Ok text) (Err NoPath) (named, apart, h) (named_2, apart_2, n) =
    let (target, beyond, way) = ForFile-both moves i reference (BelowTop (IsBeyond moves i)) _ apart n h in
    absurd (beyond.1 (components text, way.1.shortest.leads))
IsAnswered-only moves i reference (Ok text) (Err OutOfMemory) h n = absurd n
IsAnswered-only moves i reference (Ok text) (Ok other) (named, apart, h) (named_2, apart_2, n) =
    let (target, way, way_2) = ForFile-both moves i reference (BelowTop (IsMovedText moves i text)) _ apart h n in
    ap Ok (IsShortestText-IsOfOne _ target text other way.1 way_2.1)

TellsMoved-IsOfOne : (old new reference : List Step) → IsOfOne (TellsMoved old new reference)
TellsMoved-IsOfOne old new reference one other (outcome, is, e) (outcome_2, is_2, f) =
    f ∙ ap moved_answer (IsAnswered-only (one_move old new) 0 reference outcome outcome_2 is is_2) ∙ sym e

AnswersRelativeTo-IsOfOne : (path root : List ℕ) → IsOfOne (AnswersRelativeTo path root)
AnswersRelativeTo-IsOfOne path root one other (inl (differ, e)) (inl (differ_2, f)) = f ∙ sym e
AnswersRelativeTo-IsOfOne path root one other (inl (differ, e)) (inr (same, f)) = absurd (differ same)
AnswersRelativeTo-IsOfOne path root one other (inr (same, e)) (inl (differ, f)) = absurd (differ same)
AnswersRelativeTo-IsOfOne path root one other (inr (same, e)) (inr (same_2, f)) = tell (way_to path root) e f where
  tell : (found : Option (List Step))
      → MatchOption found (one ≡ words_answer (relative_to_words AmbiguousTraversal)) (λ way. one ≡ path_answer (spell way))
      → MatchOption found (other ≡ words_answer (relative_to_words AmbiguousTraversal))
      (λ way. other ≡ path_answer (spell way)) → other ≡ one
  tell None e f = f ∙ sym e
  tell (Some way) e f = f ∙ sym e

AnswersArguments-IsOfOne : (command : Command) (arguments : List (List ℕ))
    → IsOfOne (AnswersArguments command arguments)
AnswersArguments-IsOfOne Normalize arguments = GivesPath-IsOfOne _ (IsNormalTextOf-IsOfOne _)
AnswersArguments-IsOfOne Join arguments = is-IsOfOne _
AnswersArguments-IsOfOne Relative arguments = GivesPath-IsOfOne _ (IsWayText-IsOfOne _ _)
AnswersArguments-IsOfOne TryRelative arguments = TellsWay-IsOfOne _ _
AnswersArguments-IsOfOne RelativeTo arguments = AnswersRelativeTo-IsOfOne (field arguments 0) (field arguments 1)
AnswersArguments-IsOfOne Move arguments = TellsMoved-IsOfOne _ _ _

AnswersCommand-IsOfOne : (name : List ℕ) (arguments : List (List ℕ)) → IsOfOne (AnswersCommand name arguments)
AnswersCommand-IsOfOne name arguments = named (command_named name) where
  named : (found : Option Command)
      → IsOfOne (λ answer. MatchOption found (answer ≡ words_answer (codes "unknown command"))
      (λ command. MatchBool (length arguments == arity_of command) (AnswersArguments command arguments answer)
      (answer ≡ words_answer (codes "wrong number of fields"))))
  named None = is-IsOfOne _
  named (Some command) =
      MatchBool-IsOfOne (length arguments == arity_of command) (AnswersArguments command arguments) _
      (AnswersArguments-IsOfOne command arguments) (is-IsOfOne _)

-- each line has one answer
AnswersLines-IsOfOne : (lines : List (List ℕ)) → IsOfOne (AnswersLines lines)
AnswersLines-IsOfOne [] one other e f = f ∙ sym e
AnswersLines-IsOfOne (line ∷ lines) one other (answer, rest, a, o, e) (answer_2, rest_2, a_2, o_2, f) =
    let fields = fields_of line in
    let same_answer = AnswersCommand-IsOfOne (field fields 0) (drop 1 fields) answer answer_2 a a_2 in
    let same_rest = AnswersLines-IsOfOne lines rest rest_2 o o_2 in
    f ∙ ap (λ text. text ++ line_feed ∷ rest_2) same_answer ∙ ap (λ text. answer ++ line_feed ∷ text) same_rest ∙ sym e

-- each input has one output
pub IsOutput-only : (input one other : List ℕ) → IsOutput input one → IsOutput input other → other ≡ one
IsOutput-only input one other = AnswersLines-IsOfOne (lines_of input) one other
