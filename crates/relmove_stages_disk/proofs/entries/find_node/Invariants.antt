use Rattle.std.proofs.Common.{◌≡◌, drop}
use Rattle.relative_path.specs.RelativePath.{path_text}
use Rattle.relmove_stages_disk.specs.Entries.{entries_tree}
use Rattle.relmove_trees.specs.FileTrees.{names_of}
use Rattle.relmove_stages_disk.proofs.entries.find_node.Given as goal

-- what is at the path is among the entries that are left
abbrev pub invariant-loop-entry : goal.invariant-loop-entry
invariant-loop-entry l =
    entries_tree l.entries (names_of (path_text l.path)) ≡ entries_tree (drop l.entry-index l.entries) (names_of (path_text l.path))
