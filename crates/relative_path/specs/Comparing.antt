-- The equality and the order of components and of paths, and what a hasher is fed.
use Rattle.std.specs.Prelude.{ℕ, Bool, ◌==◌, List, [], ◌∷◌}
use Rattle.std.specs.Cmp.Lexicographic.{pointwise, slice_cmp}
use Rattle.std.specs.Ordering.{nat_cmp, on, then_cmp, eq_of_both}
use Rattle.std.specs.declared.cmp.Ordering.{Ordering}
use Rattle.relative_path.specs.Steps.{Step, cur, up, name, slash, step_text}

-- `.` comes first, then `..`, then names
abbrev pub step_rank : Step → ℕ
step_rank cur = 0
step_rank up = 1
step_rank (name n) = 2

-- components are equal if they have the same rank and the same text
abbrev pub step_eq : Step → Step → Bool
step_eq = eq_of_both (on step_rank ◌==◌) (on step_text (pointwise ◌==◌))

-- components are ordered by their rank, and names by their bytes
abbrev pub step_cmp : Step → Step → Ordering
step_cmp = then_cmp (on step_rank nat_cmp) (on step_text (slice_cmp nat_cmp))

-- lists are equal if they have equally many components, and these are equal in pairs
abbrev pub steps_eq : List Step → List Step → Bool
steps_eq = pointwise step_eq

-- lists are ordered by the first component that differs; if none differs, the shorter list comes first
abbrev pub steps_cmp : List Step → List Step → Ordering
steps_cmp = slice_cmp step_cmp

-- one write for the text of each component, and one for a slash after it
abbrev pub fed : List Step → List (List ℕ)
fed [] = []
fed (c ∷ cs) = step_text c ∷ (slash ∷ []) ∷ fed cs

-- what a value that shows components feeds a hasher
abbrev pub fed_by : {A : Type 0} → (A → List Step) → A → List (List ℕ)
fed_by shown x = fed (shown x)
