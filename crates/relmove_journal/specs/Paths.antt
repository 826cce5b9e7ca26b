-- How a path below a directory is written, and in which directory a path is.
use Rattle.std.specs.Prelude.{◌≡◌, ◌≢◌, ◌⊎◌, ℕ, nat_eq, Bool, not, ◌&&◌, List, [], ◌∷◌, ◌++◌, All, codes, if◌then◌else◌}
use Rattle.std.specs.List.{ends_with}
use Rattle.relmove_journal.specs.Shape.{is_not_empty}

-- a slash is written between a directory's path and a path below it: neither is empty, and none is there yet
abbrev pub needs_slash : List ℕ → List ℕ → Bool
needs_slash directory path = is_not_empty directory && not (ends_with nat_eq directory (codes "/")) && is_not_empty path

-- the path below the directory
abbrev pub path_below : List ℕ → List ℕ → List ℕ
path_below directory path = if needs_slash directory path then directory ++ 47 ∷ path else directory ++ path

-- the path is the directory, a slash and a name without a slash; or it is such a name, and the directory is the root
abbrev pub IsDirectoryOf : List ℕ → List ℕ → Type 0
IsDirectoryOf directory path = (name : List ℕ) × All (λ b. b ≢ 47) name
    × ((path ≡ directory ++ 47 ∷ name) ⊎ ((path ≡ name) × (directory ≡ [])))

-- the name has no slash, and the path is the name, or ends in a slash and the name
abbrev pub IsNameOf : List ℕ → List ℕ → Type 0
IsNameOf name path = All (λ b. b ≢ 47) name
    × ((path ≡ name) ⊎ ((directory : List ℕ) × (path ≡ directory ++ 47 ∷ name)))
