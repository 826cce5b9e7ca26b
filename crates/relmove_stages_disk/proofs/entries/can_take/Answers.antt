use Rattle.std.proofs.Common.{IsSome, None, Some, rules, subst, sym, ◌∙◌, ◌≡◌}
use Rattle.relative_path.specs.RelativePath.{path_text}
use Rattle.relmove_trees.proofs.FileTreesLemmas.{some_none}
use Rattle.relmove_trees.specs.FileTrees.{Directory, names_of}
use Rattle.relmove_stages_disk.proofs.LookingLemmas.{not_true, takes, takes-none}
use Rattle.relmove_stages_disk.specs.Entries.{entries_tree, node_at}
use Rattle.relmove_stages_disk.proofs.entries.can_take.Goals as goal

pub returns-then-not-is_nothing-clause-none : goal.returns-then-not-is_nothing-clause-none
returns-then-not-is_nothing-clause-none c =
    λ is can.
    let some : IsSome (node_at c.find_node-2.result) = search rules in
    some_none (entries_tree c.args.entries.now (names_of (path_text c.args.path))) (subst IsSome c.find_node-2.ensures some)
    (takes-none (entries_tree c.args.entries.now) (names_of (path_text c.args.path)) can)

pub returns-clause-takes : goal.returns-clause-takes
returns-clause-takes c =
    λ is.
    let directory : node_at c.find_node.result ≡ Some Directory = search rules in
    let nothing : node_at c.find_node-2.result ≡ None = search rules in
    takes (entries_tree c.args.entries.now) (path_text c.args.path) (path_text c.in-Some.top) c.in-Some.ensures.some.0
    c.in-Some.ensures.some.1 (sym c.find_node.ensures ∙ directory) (sym c.find_node-2.ensures ∙ nothing)
    (c.has_below.ensures.none (not_true c.has_below.result is))
