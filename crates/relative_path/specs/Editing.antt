-- The texts that edits leave.
use Rattle.std.specs.Prelude.{ℕ, Bool, true, false, not, ◌-◌, ◌==◌, List, [], ◌∷◌, ◌++◌, length, take, slice_index, if◌then◌else◌}
use Rattle.std.specs.List.{filter, suffix_len}
use Rattle.relative_path.specs.Steps.{Step, cur, up, name, slash, components}
use Rattle.relative_path.specs.Slices.{IsCut}

-- the text, followed by a slash unless it is empty or ends in a slash
abbrev pub with_separator : List ℕ → List ℕ
with_separator [] = []
with_separator (b ∷ bs) = if slice_index (b ∷ bs) (length bs) == slash then b ∷ bs else (b ∷ bs) ++ slash ∷ []

-- the text without one slash at its start
abbrev pub unslashed : List ℕ → List ℕ
unslashed [] = []
unslashed (b ∷ text) = if b == slash then text else b ∷ text

-- the text after a push of the path: the text with its separator, followed by the path without one slash at its start
abbrev pub pushed : List ℕ → List ℕ → List ℕ
pushed text path = with_separator text ++ unslashed path

-- the component is `.`
abbrev pub is_cur : Step → Bool
is_cur cur = true
is_cur up = false
is_cur (name n) = false

-- the components without any `.`
abbrev pub without_cur_dirs : List Step → List Step
without_cur_dirs cs = filter (λ c. not (is_cur c)) cs

-- how many components a parent keeps: all but each `.` at the end, and one less if any are left
abbrev pub kept_len : List Step → ℕ
kept_len cs = length cs - suffix_len is_cur cs - 1

-- the components that a parent keeps
abbrev pub kept : List Step → List Step
kept cs = take (kept_len cs) cs

-- p is the shortest prefix with the components that a parent keeps: what `pop` leaves and `parent` returns
abbrev pub IsPopped : List ℕ → List ℕ → Type 0
IsPopped text p = IsCut text (kept_len (components text)) p
