-- What a `RelativePathBuf` shows.
use Rattle.std.specs.Prelude.{◌≡◌, ◌<◌, ℕ, List, length}
use Rattle.relative_path.specs.Steps.{Step, components}

-- a text, and how many bytes it can have before the buffer allocates
pub record Buffer : Type 0 where
  pub text : List ℕ
  pub room : ℕ

-- the components of the text
abbrev pub buffer_components : Buffer → List Step
buffer_components buffer = components buffer.text

-- exactly one text has the property, and it is longer than the room
pub record ExceedsRoom (P : List ℕ → Type 0) (room : ℕ) : Type 0 where
  pub text : List ℕ
  pub holds : P text
  pub only : (other : List ℕ) → P other → other ≡ text
  pub longer : room < length text
