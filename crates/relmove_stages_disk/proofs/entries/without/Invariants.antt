use Rattle.relative_path.specs.RelativePath.{path_text}
use Rattle.relmove_stages_disk.proofs.EntriesLemmas.{AreWithout}
use Rattle.relmove_trees.specs.FileTrees.{names_of}
use Rattle.relmove_stages_disk.proofs.entries.without.Given as goal

abbrev pub invariant-loop-entry : goal.invariant-loop-entry
invariant-loop-entry l = AreWithout (names_of (path_text l.path)) l.entries l.entry-index l.copies.items
