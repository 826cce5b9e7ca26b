-- The paths of such directories among the entries so far.
use Rattle.std.proofs.Common.{◌≡◌, map, take}
use Rattle.relative_path.specs.RelativePath.{path_text}
use Rattle.relmove_checks.specs.declared.entry.Entry.{Entry}
use Rattle.relmove_checks.specs.Trees.{foreign_directories}
use Rattle.relmove_checks.proofs.foreign.foreign_paths.Given as goal

abbrev pub invariant-loop-entry : goal.invariant-loop-entry
invariant-loop-entry l =
    map path_text l.paths.items ≡ map (λ (entry : Entry). entry.path) (foreign_directories (take l.entry-index l.entries))
