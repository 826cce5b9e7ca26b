-- What a text needs of the caller's bytes.
use Rattle.std.specs.Prelude.{◌≡◌, ◌<◌, ℕ, List, length}

-- exactly one text has the property; it has `needed` bytes, which is more than the room
pub record NeedsRoom (P : List ℕ → Type 0) (room needed : ℕ) : Type 0 where
  pub text : List ℕ
  pub holds : P text
  pub only : (other : List ℕ) → P other → other ≡ text
  pub size : length text ≡ needed
  pub longer : room < needed
