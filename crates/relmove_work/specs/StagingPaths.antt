-- The paths that a run has for those of a plan: `.relmove-run/1` stands for `.relmove-1`.
use Rattle.std.specs.Prelude.{ℕ, nat_eq, Bool, List, [], ◌∷◌, codes, drop, if◌then◌else◌}
use Rattle.std.specs.List.{starts_with}
use Rattle.relmove_journal.specs.Paths.{path_below}
use Rattle.relmove_journal.specs.Shape.{names}

-- the path begins as a label of a plan, and as the name of a new text: with `.relmove-`
abbrev pub begins_as_label : List ℕ → Bool
begins_as_label path = starts_with nat_eq path (codes ".relmove-")

-- the path that a run has for one of a plan that may begin with a label: what follows `.relmove-` is in the run's directory
abbrev pub staging_path : List ℕ → List ℕ
staging_path path = if begins_as_label path then path_below (codes ".relmove-run") (drop 9 path) else path

-- the last of the texts
abbrev pub last_of : List (List ℕ) → List ℕ
last_of [] = []
last_of (last ∷ []) = last
last_of (first ∷ next ∷ rest) = last_of (next ∷ rest)

-- the name at the end of a path
abbrev pub last_name : List ℕ → List ℕ
last_name path = last_of (names path)

-- where a run writes a new text for which a plan has this file
abbrev pub text_path : List ℕ → List ℕ
text_path file = staging_path (last_name file)

-- the path is of a plan's new text
abbrev pub is_text_file : List ℕ → Bool
is_text_file path = begins_as_label (last_name path)
