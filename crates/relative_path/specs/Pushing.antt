-- Pushes of many paths, one after another.
use Rattle.std.specs.Prelude.{◌≡◌, ℕ, ◌+◌, ◌<◌, ◌≤◌, List, map, fold, take, length, slice_index_or, Option, Some, IfSome}
use Rattle.std.specs.Iterator.{Drains, YieldsThen}
use Rattle.std.specs.Iterator.Runs.{Run, SomeRun, WholeRun}
use Rattle.relative_path.specs.declared.path.RelativePath.{RelativePath}
use Rattle.relative_path.specs.Editing.{pushed}
use Rattle.relative_path.specs.RelativePath.{path_text}
use Rattle.relative_path.specs.RelativePathBuf.{Buffer}

-- the text after a push of each path in turn
abbrev pub pushed_all : List ℕ → List (List ℕ) → List ℕ
pushed_all text paths = fold pushed text paths

-- the first of the paths, perhaps none, were pushed, and the next one doesn't fit the room
pub record StopsWithin (old new : Buffer) (paths : List (List ℕ)) : Type 0 where
  pub count : ℕ
  pub before_end : count < length paths
  pub text : new.text ≡ pushed_all old.text (take count paths)
  pub stopped : new.room < length (pushed_all old.text (take (count + 1) paths))
  pub full : old.room < length (pushed_all old.text paths)

-- the paths that the iterator gave have these texts, index by index
abbrev pub ReadsTexts : {S : Type 0} {steps : S → Option RelativePath → S → Type 0} → Run steps → List (List ℕ) → Type 0
ReadsTexts run texts =
    (k : ℕ) → IfSome (run.at k) (λ path. path_text path ≡ slice_index_or texts k (path_text path))

-- an iterator, by what `into_iter` makes of it and by its calls of `next`
module _ {U T : Type 0} (becomes : U → T → Type 0) (steps : T → Option RelativePath → T → Type 0) where
  -- each path that the iterator gave was pushed
  abbrev pub PushesAll : U → List ℕ → List ℕ → Type 0
  PushesAll iter old new = (it : T) × (paths : List RelativePath) × becomes iter it × Drains steps it paths
      × (new ≡ pushed_all old (map path_text paths))

  -- each path that the iterator gave was pushed, up to one that doesn't fit the room
  abbrev pub PushesUntilFull : U → Buffer → Buffer → Type 0
  PushesUntilFull iter old new = (it : T) × (paths : List RelativePath) × (refused : RelativePath) × (left : T)
      × becomes iter it × YieldsThen steps it paths (Some refused) left
      × (new.text ≡ pushed_all old.text (map path_text paths))
      × (new.room < length (pushed new.text (path_text refused)))

  -- the same by index: for each list that has the texts of the given paths, the new text is the old text after a push
  -- of each of them
  abbrev pub PushesWholeRun : U → List ℕ → List ℕ → Type 0
  PushesWholeRun iter old new = (it : T) × becomes iter it × WholeRun steps it (λ run.
      (texts : List (List ℕ)) → run.len ≡ length texts → ReadsTexts run texts → new ≡ pushed_all old texts)

  -- the same of a push that failed: for each list of texts that begins with those of the given paths, the pushes
  -- stopped within that list
  abbrev pub StopsRun : U → Buffer → Buffer → Type 0
  StopsRun iter old new = (it : T) × becomes iter it × SomeRun steps it (λ run.
      (texts : List (List ℕ)) → run.len ≤ length texts → ReadsTexts run texts → StopsWithin old new texts)
