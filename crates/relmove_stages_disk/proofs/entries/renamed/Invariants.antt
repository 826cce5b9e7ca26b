use Rattle.std.proofs.Common.{◌≡◌, map, take}
use Rattle.relative_path.specs.RelativePath.{path_text}
use Rattle.relmove_stages_disk.specs.Entries.{item_of, moved}
use Rattle.relmove_trees.specs.FileTrees.{names_of}
use Rattle.relmove_stages_disk.proofs.entries.renamed.Given as goal

-- the entries so far are renamed
abbrev pub invariant-loop-entry : goal.invariant-loop-entry
invariant-loop-entry l =
    map item_of l.copies.items
    ≡ map (moved (names_of (path_text l.from)) (names_of (path_text l.to))) (map item_of (take l.entry-index l.entries))
