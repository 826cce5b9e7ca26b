-- The components of a text, counted by their starts.
use Rattle.std.specs.Prelude.{ℕ, ◌+◌, ◌-◌, Bool, true, false, List, [], ◌∷◌, drop, if◌then◌else◌, slice_index}
use Rattle.relative_path.specs.Steps.{is_slash}

-- how many components begin in a text that comes after a slash, or after another byte
abbrev pub begun : Bool → List ℕ → ℕ
begun after_slash [] = 0
begun after_slash (b ∷ bs) =
    if is_slash b then begun true bs else (if after_slash then 1 + begun false bs else begun false bs)

-- how many components begin in a text from an index on, which is at least 1
abbrev pub starts_from : List ℕ → ℕ → ℕ
starts_from text at = begun (is_slash (slice_index text (at - 1))) (drop at text)
