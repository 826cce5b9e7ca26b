-- Sorting keeps the paths.
use Rattle.std.proofs.Common.{List, map, subst, ap, ◌∙◌, IsPermutation, arith}
use Rattle.std.proofs.lemmas.List.{take_all}
use Rattle.std.proofs.lemmas.List.Sorted.{IsPermutation-map}
use Rattle.relative_path.specs.RelativePath.{path_text}
use Rattle.relmove_checks.specs.declared.entry.Entry.{Entry}
use Rattle.relmove_checks.specs.Trees.{foreign_directories}
use Rattle.relmove_checks.proofs.foreign.foreign_paths.Goals as goal

pub returns-clause-paths : goal.returns-clause-paths
returns-clause-paths c =
    let entries = c.args.entries.now in
    let sorted = map path_text c.sort.new.self.items in
    let all = take_all c.loop-entry.entry-index entries (omega (arith, c.loop-entry-test.false)) in
    let is =
    c.loop-entry.invariant
    ∙ ap (λ (entries : List Entry). map (λ (entry : Entry). entry.path) (foreign_directories entries)) all in
    subst (λ texts. IsPermutation texts sorted) is
    (IsPermutation-map path_text c.loop-entry.paths.items c.sort.new.self.items c.in_ok-sort.ensures.permutation)
