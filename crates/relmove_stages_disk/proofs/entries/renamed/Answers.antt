use Rattle.std.proofs.Common.{ap, map, ◌∙◌}
use Rattle.std.proofs.lemmas.List.{take_all}
use Rattle.relative_path.specs.RelativePath.{path_text}
use Rattle.relmove_trees.specs.FileTrees.{names_of}
use Rattle.relmove_stages_disk.proofs.EntriesLemmas.{tree_of-moved}
use Rattle.relmove_stages_disk.specs.Entries.{item_of, moved, tree_of}
use Rattle.relmove_stages_disk.proofs.entries.renamed.Goals as goal

pub returns : goal.returns
returns c =
    λ free.
    ap tree_of (c.loop-entry.invariant
    ∙ ap (λ entries. map (moved (names_of (path_text c.args.from)) (names_of (path_text c.args.to))) (map item_of entries))
    (take_all c.loop-entry.entry-index c.args.entries.now c.loop-entry-test.false))
    ∙ tree_of-moved (names_of (path_text c.args.from)) (names_of (path_text c.args.to)) (map item_of c.args.entries.now) free
