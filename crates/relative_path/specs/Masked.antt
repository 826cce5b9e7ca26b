-- What a mask says of the slashes at the start of a text.
use Rattle.std.specs.Prelude.{◌≡◌, ℕ, ◌^◌, ◌≤◌, cond, List, get_or}
use Rattle.std.specs.Int.{bit_at}
use Rattle.relative_path.specs.Steps.{slash, is_slash}

-- each bit of the mask, up to its highest one, says whether the byte at that index is a slash, or the text ends there
abbrev pub KnowsSlashes : ℕ → List ℕ → Type 0
KnowsSlashes mask text = (k : ℕ) → 2 ^ k ≤ mask → bit_at mask k ≡ cond (is_slash (get_or text k slash)) 1 0
