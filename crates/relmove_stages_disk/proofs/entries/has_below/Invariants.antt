use Rattle.std.proofs.Common.{◌≡◌, ◌++◌, ◌∷◌, List, drop, ℕ}
use Rattle.relative_path.specs.RelativePath.{path_text}
use Rattle.relmove_stages_disk.specs.Entries.{entries_tree}
use Rattle.relmove_trees.specs.FileTrees.{Place, names_of}
use Rattle.relmove_stages_disk.proofs.entries.has_below.Given as goal

-- what is below the path is among the entries that are left
abbrev pub invariant-loop-entry : goal.invariant-loop-entry
invariant-loop-entry l = (n : List ℕ) (rest : Place)
    → entries_tree l.entries (names_of (path_text l.path) ++ n ∷ rest)
    ≡ entries_tree (drop l.entry-index l.entries) (names_of (path_text l.path) ++ n ∷ rest)
