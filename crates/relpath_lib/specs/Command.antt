-- The answer to a line, by its command.
use Rattle.std.specs.Prelude.{◌≡◌, ◌≢◌, ◌⊎◌, MatchOption, ℕ, ◌==◌, List, [], ◌∷◌, ◌++◌, Result, Ok, Err, length, drop, codes, MatchBool, slice_index_or, Option, Some, None, if◌then◌else◌}
use Rattle.std.specs.Str.{bytes_eq}
use Rattle.relative_path.specs.Steps.{Step, components, spell}
use Rattle.relative_path.specs.Normalizing.{IsNormalTextOf}
use Rattle.relative_path.specs.Editing.{pushed}
use Rattle.relative_path.specs.Relating.{IsReachable, IsShortestText, IsWayText}
use Rattle.relative_path.specs.Unix.{has_root, way_to}
use Rattle.relative_path.specs.Error.{relative_to_words}
use Rattle.relative_path.specs.declared.error.RelativeToErrorKind.TheVariants.{PrefixMismatch, AmbiguousTraversal}
use Rattle.relative_path_moves.specs.declared.move_error.MoveError.{MoveError}
use Rattle.relative_path_moves.specs.MoveError.{refusal_text}
use Rattle.relative_path_moves.specs.Moves.{Move as FileMove}
use Rattle.relative_path_moves.specs.Reference.{IsAnswered}
use Rattle.relpath_lib.specs.declared.command.Command.{Command}
use Rattle.relpath_lib.specs.declared.command.Command.TheVariants.{Normalize, Join, Relative, TryRelative, RelativeTo, Move}
use Rattle.relpath_lib.specs.Lines.{fields_of}

-- the answer with a path
abbrev pub path_answer : List ℕ → List ℕ
path_answer text = codes "= " ++ text

-- the answer with words
abbrev pub words_answer : List ℕ → List ℕ
words_answer words = codes "! " ++ words

-- the answer has a path, and P holds of its text
abbrev pub GivesPath : (List ℕ → Type 0) → List ℕ → Type 0
GivesPath P answer = (text : List ℕ) × P text × (answer ≡ path_answer text)

-- the answer has the path that spells the shortest list from f to t, or says that no path leads there
abbrev pub TellsWay : List Step → List Step → List ℕ → Type 0
TellsWay f t answer =
    GivesPath (IsShortestText f t) answer ⊎ (¬ IsReachable f t) × (answer ≡ words_answer (codes "no path"))

-- field number n, counted from 0, or the empty text if the line has fewer
abbrev pub field : List (List ℕ) → ℕ → List ℕ
field fields n = slice_index_or fields n []

-- `normalize`, path: the path's normal text
abbrev pub AnswersNormalize : List ℕ → List ℕ → Type 0
AnswersNormalize path = GivesPath (IsNormalTextOf (components path))

-- `join`, path, path: the text of the first with the second pushed onto it
abbrev pub AnswersJoin : List ℕ → List ℕ → List ℕ → Type 0
AnswersJoin path more answer = answer ≡ path_answer (pushed path more)

-- `relative`, path, path: the shortest path that leads from the first to the second, or the empty path if no path leads there
abbrev pub AnswersRelative : List ℕ → List ℕ → List ℕ → Type 0
AnswersRelative from to = GivesPath (IsWayText (components from) (components to))

-- `try_relative`, path, path: the shortest path that leads from the first to the second, or words if no path leads there
abbrev pub AnswersTryRelative : List ℕ → List ℕ → List ℕ → Type 0
AnswersTryRelative from to = TellsWay (components from) (components to)

-- `relative_to`, path, root: the relative path from the root to the path, both platform paths, or why there is no such path
abbrev pub AnswersRelativeTo : List ℕ → List ℕ → List ℕ → Type 0
AnswersRelativeTo path root answer =
    ((has_root path ≢ has_root root) × (answer ≡ words_answer (relative_to_words PrefixMismatch)))
    ⊎ (has_root path ≡ has_root root)
    × MatchOption (way_to path root) (answer ≡ words_answer (relative_to_words AmbiguousTraversal))
    (λ way. answer ≡ path_answer (spell way))

-- the answer has the path, or the words of the error
abbrev pub moved_answer : Result (List ℕ) MoveError → List ℕ
moved_answer (Ok text) = path_answer text
moved_answer (Err refusal) = words_answer (refusal_text refusal)

-- the move from one path to another
abbrev pub one_move : List Step → List Step → List FileMove
one_move old new = record { old = old; new = new } ∷ []

-- the answer has what the reference becomes in the file that moved from one path to another, or says why it can't be moved
abbrev pub TellsMoved : List Step → List Step → List Step → List ℕ → Type 0
TellsMoved old new reference answer =
    (outcome : Result (List ℕ) MoveError) × IsAnswered (one_move old new) 0 reference outcome
    × (answer ≡ moved_answer outcome)

-- `move`, path, path, path: what the third becomes in the file that moved from the first to the second
abbrev pub AnswersMove : List ℕ → List ℕ → List ℕ → List ℕ → Type 0
AnswersMove old new reference = TellsMoved (components old) (components new) (components reference)

-- the command of this name
abbrev pub command_named : List ℕ → Option Command
command_named name =
    if bytes_eq name (codes "normalize") then Some Normalize
    else if bytes_eq name (codes "join") then Some Join
    else if bytes_eq name (codes "relative") then Some Relative
    else if bytes_eq name (codes "try_relative") then Some TryRelative
    else if bytes_eq name (codes "relative_to") then Some RelativeTo
    else if bytes_eq name (codes "move") then Some Move
    else None

-- how many arguments a command takes
abbrev pub arity_of : Command → ℕ
arity_of Normalize = 1
arity_of Join = 2
arity_of Relative = 2
arity_of TryRelative = 2
arity_of RelativeTo = 2
arity_of Move = 3

-- the answer to a command and as many arguments as it takes
abbrev pub AnswersArguments : Command → List (List ℕ) → List ℕ → Type 0
AnswersArguments Normalize arguments = AnswersNormalize (field arguments 0)
AnswersArguments Join arguments = AnswersJoin (field arguments 0) (field arguments 1)
AnswersArguments Relative arguments = AnswersRelative (field arguments 0) (field arguments 1)
AnswersArguments TryRelative arguments = AnswersTryRelative (field arguments 0) (field arguments 1)
AnswersArguments RelativeTo arguments = AnswersRelativeTo (field arguments 0) (field arguments 1)
AnswersArguments Move arguments = AnswersMove (field arguments 0) (field arguments 1) (field arguments 2)

-- the answer to a command, by its name, and its arguments
abbrev pub AnswersCommand : List ℕ → List (List ℕ) → List ℕ → Type 0
AnswersCommand name arguments answer =
    MatchOption (command_named name) (answer ≡ words_answer (codes "unknown command"))
    (λ command. MatchBool (length arguments == arity_of command) (AnswersArguments command arguments answer)
    (answer ≡ words_answer (codes "wrong number of fields")))

-- the answer to the fields of a line, the command first
abbrev pub AnswersFields : List (List ℕ) → List ℕ → Type 0
AnswersFields fields = AnswersCommand (field fields 0) (drop 1 fields)

-- the answer to a line
abbrev pub Answers : List ℕ → List ℕ → Type 0
Answers line = AnswersFields (fields_of line)

-- a text for which P holds was added to the old text
abbrev pub Adds : (List ℕ → Type 0) → List ℕ → List ℕ → Type 0
Adds P old new = (added : List ℕ) × P added × (new ≡ old ++ added)
