-- The directories that moves leave, and those that a run makes.
use Rattle.std.specs.Prelude.{◌≡◌, ◌≢◌, ◌<◌, ℕ, List, [], ◌++◌, String, All, AllPairs, Contains, length, map, slice_index_or, string_bytes}
use Rattle.std.specs.List.{AllZip, zip}
use Rattle.std.specs.declared.alloc.Global.{Global}
use Rattle.relative_path.specs.Steps.{Step, components}
use Rattle.relative_path.specs.Normalizing.{IsNormalTextOf}
use Rattle.relative_path_moves.specs.Moves.{Move, move_at, AreApart}
use Rattle.relative_path_places.specs.PlaceIndex.{IsNoneAt}
use Rattle.relative_path_moves.specs.TreeMoves.{AtTreePath}
use Rattle.relmove_checks.specs.Moves.{move_of}
use Rattle.relmove_steps.specs.Actions.{AboveFirst, ActionTexts}

-- the components begin with this front, which is neither empty nor all of them
pub record HasDirectory (cs front : List Step) : Type 0 where
  pub rest : List Step
  pub split : cs ≡ front ++ rest
  pub some_front : front ≢ []
  pub some_rest : rest ≢ []

-- the text is the normal path, after the moves, of a directory that is above the path before them
pub record IsAboveAfter (moves : List Move) (path : List Step) (text : List ℕ) : Type 0 where
  pub normal : List ℕ
  pub normal_of : IsNormalTextOf path normal
  pub directory : List Step
  pub above : HasDirectory (components normal) directory
  pub now : AtTreePath moves directory (λ target. IsNormalTextOf target text)

-- the text is the normal path, after the moves of a table, of a directory that is above the old path of one of these moves
abbrev pub IsLeftBehindByMove : List Move → List Move → List ℕ → Type 0
IsLeftBehindByMove table moves text = (k : ℕ) × (k < length moves) × IsAboveAfter table (move_at moves k).old text

-- each of the texts is of such a directory
abbrev pub AreLeftBehindByMoves : List Move → List Move → List (String Global) → Type 0
AreLeftBehindByMoves table moves texts = All (λ text. IsLeftBehindByMove table moves (string_bytes text)) texts

-- the directory is above the path in its normal form
pub record IsDirectoryAbove (path directory : List Step) : Type 0 where
  pub normal : List ℕ
  pub normal_of : IsNormalTextOf path normal
  pub above : HasDirectory (components normal) directory

-- one of the texts is where the directory is after the moves
pub record HasLeftBehind (table : List Move) (texts : List (List ℕ)) (directory : List Step) : Type 0 where
  pub text : List ℕ
  pub now : AtTreePath table directory (λ target. IsNormalTextOf target text)
  pub has : Contains texts text

-- the texts have those of all directories above old paths
abbrev pub AreAllLeftBehind : List Move → List Move → List (List ℕ) → Type 0
AreAllLeftBehind table moves texts = (k : ℕ) → k < length moves → (directory : List Step)
    → IsDirectoryAbove (move_at moves k).old directory → HasLeftBehind table texts directory

-- ---- the directories that a run makes

-- one of the texts is the normal text of the components
abbrev pub HaveTextOf : List (List ℕ) → List Step → Type 0
HaveTextOf texts cs = (text : List ℕ) × Contains texts text × IsNormalTextOf cs text

-- the directory is above the new path of one of the moves, and none of the paths after the moves leads there
pub record IsMissing (moves : List Move) (after : List (List Step)) (directory : List Step) : Type 0 where
  pub move : ℕ
  pub within : move < length moves
  pub above : IsDirectoryAbove (move_at moves move).new directory
  pub none : IsNoneAt after directory

-- the text is the normal text of such a directory
abbrev pub IsMissingText : List Move → List (List Step) → List ℕ → Type 0
IsMissingText moves after text = (directory : List Step) × IsMissing moves after directory × IsNormalTextOf directory text

-- each of the texts is the text of such a directory
abbrev pub AreMissingTexts : List Move → List (List Step) → List (String Global) → Type 0
AreMissingTexts moves after texts = All (λ text. IsMissingText moves after (string_bytes text)) texts

-- the texts are those of all such directories, each once, and each after those above it
pub record AreMissing (moves : List Move) (after : List (List Step)) (texts : List (List ℕ)) : Type 0 where
  pub sound : All (IsMissingText moves after) texts
  pub complete : (directory : List Step) → IsMissing moves after directory → HaveTextOf texts directory
  pub order : AboveFirst texts
  pub different : AllPairs (λ one other. one ≢ other) texts

-- the moves from the new paths of these moves to the names, in order
abbrev pub moves_to_names : List Move → List (List ℕ) → List Move
moves_to_names moves names = map (λ pair. move_of pair.0.new (components pair.1)) (zip moves names)

-- the text is the normal path of the directory after the moves
abbrev pub IsTextTakenTo : List Move → List ℕ → List ℕ → Type 0
IsTextTakenTo moves directory text = AtTreePath moves (components directory) (λ target. IsNormalTextOf target text)

-- the texts are those of the missing directories, each where these moves take it
pub record AreTaken (moves news : List Move) (after : List (List Step)) (made : List (List ℕ)) : Type 0 where
  pub missing : List (List ℕ)
  pub are_missing : AreMissing moves after missing
  pub taken : AllZip (IsTextTakenTo news) missing made

-- the missing directories are made where the moves to the names take them; no two of these moves have the same old path
pub record AreMade (moves : List Move) (names : List (List ℕ)) (after : List (List Step)) (made : List (List ℕ)) : Type 0 where
  pub apart : AreApart (moves_to_names moves names)
  pub taken : AreTaken moves (moves_to_names moves names) after made

-- what is where the components lead leaves to the name
abbrev pub LeavesTo : ActionTexts → List Step → List ℕ → Type 0
LeavesTo actions cs name = (old : List ℕ) × IsNormalTextOf cs old × Contains actions.staged (old, name)

-- what is at the old paths of the moves leaves to the names, in order
pub record LeaveToNames (moves : List Move) (names : List (List ℕ)) (actions : ActionTexts) : Type 0 where
  pub count : length names ≡ length moves
  pub each : (k : ℕ) → k < length moves → LeavesTo actions (move_at moves k).old (slice_index_or names k [])

-- the missing directories are made where the moves take them from the new paths to the staging names
pub record MakesMissing (moves : List Move) (after : List (List Step)) (actions : ActionTexts) (made : List (List ℕ)) : Type 0 where
  pub staging : List (List ℕ)
  pub leave : LeaveToNames moves staging actions
  pub are_made : AreMade moves staging after made
