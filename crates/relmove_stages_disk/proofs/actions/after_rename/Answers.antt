use Rattle.std.proofs.Common.{Err, IsSome, None, false, rules, subst, sym, true, true≢false, ◌∙◌, ◌≡◌}
use Rattle.relative_path.specs.RelativePath.{path_text}
use Rattle.relmove_trees.specs.FileTrees.{HasNothing, after_rename, names_of}
use Rattle.relmove_stages.specs.StageActions.{Takes}
use Rattle.relmove_stages_disk.proofs.ActingLemmas.{at_paths, changed, changed-if, rename-done, rename-gone, rename-no_room, rename-nothing, rename-under}
use Rattle.relmove_stages_disk.proofs.PathsLemmas.{not_under, starts-under}
use Rattle.relmove_stages_disk.specs.Entries.{entries_tree}
use Rattle.relmove_stages_disk.specs.declared.fault.Fault.TheVariants.{Refused}
use Rattle.relmove_stages_disk.proofs.actions.after_rename.Goals as goal

pub returns-then-is_nothing-2 : goal.returns-then-is_nothing-2
returns-then-is_nothing-2 c =
    let tree = entries_tree c.args.entries.now in
    let from = names_of (path_text c.new-from.result) in
    let to = names_of (path_text c.new-to.result) in
    let gone : entries_tree c.args.entries.now (names_of (path_text c.new-from.result)) ≡ None = sym c.find_node.ensures
    ∙ c.is_nothing.ensures.nothing c.if-is_nothing.true in
    at_paths (path_text c.new-from.result) c.args.from.now (path_text c.new-to.result) c.args.to.now (entries_tree c.args.entries.now)
    (Err Refused)
    c.new-from.ensures c.new-to.ensures
    (rename-nothing tree from to gone (sym c.find_node-then-is_nothing.ensures
    ∙ c.is_nothing-then-is_nothing.ensures.nothing c.if-is_nothing-2.true))

pub returns-then-is_nothing : goal.returns-then-is_nothing
returns-then-is_nothing c =
    let tree = entries_tree c.args.entries.now in
    let from = names_of (path_text c.new-from.result) in
    let to = names_of (path_text c.new-to.result) in
    let gone : entries_tree c.args.entries.now (names_of (path_text c.new-from.result)) ≡ None = sym c.find_node.ensures
    ∙ c.is_nothing.ensures.nothing c.if-is_nothing.true in
    at_paths (path_text c.new-from.result) c.args.from.now (path_text c.new-to.result) c.args.to.now (entries_tree c.args.entries.now)
    c.given_memory.result
    c.new-from.ensures c.new-to.ensures
    (changed (Takes from to) tree tree c.copies_of.result c.given_memory.result c.given_memory.ensures c.copies_of.ensures
    (rename-gone tree from to gone (subst IsSome c.find_node-then-is_nothing.ensures
    (c.is_nothing-then-is_nothing.ensures.something c.if-is_nothing-2.false))))

pub returns-then-starts_with : goal.returns-then-starts_with
returns-then-starts_with c =
    let tree = entries_tree c.args.entries.now in
    let from = names_of (path_text c.new-from.result) in
    let to = names_of (path_text c.new-to.result) in
    let there : IsSome (entries_tree c.args.entries.now (names_of (path_text c.new-from.result))) = subst IsSome c.find_node.ensures
    (c.is_nothing.ensures.something c.if-is_nothing.false) in
    at_paths (path_text c.new-from.result) c.args.from.now (path_text c.new-to.result) c.args.to.now (entries_tree c.args.entries.now)
    (Err Refused)
    c.new-from.ensures c.new-to.ensures
    (rename-under tree from to there (starts-under (path_text c.new-to.result) (path_text c.new-from.result)
    (c.starts_with.ensures.0 c.if-starts_with.true)))

pub returns-then-not-can_take : goal.returns-then-not-can_take
returns-then-not-can_take c =
    let tree = entries_tree c.args.entries.now in
    let from = names_of (path_text c.new-from.result) in
    let to = names_of (path_text c.new-to.result) in
    let there : IsSome (entries_tree c.args.entries.now (names_of (path_text c.new-from.result))) = subst IsSome c.find_node.ensures
    (c.is_nothing.ensures.something c.if-is_nothing.false) in
    let no_room : c.can_take.result ≡ false = search rules in
    at_paths (path_text c.new-from.result) c.args.from.now (path_text c.new-to.result) c.args.to.now (entries_tree c.args.entries.now)
    (Err Refused)
    c.new-from.ensures c.new-to.ensures
    (rename-no_room tree from to there (c.can_take.ensures.none no_room))

pub returns : goal.returns
returns c =
    let tree = entries_tree c.args.entries.now in
    let from = names_of (path_text c.new-from.result) in
    let to = names_of (path_text c.new-to.result) in
    let there : IsSome (entries_tree c.args.entries.now (names_of (path_text c.new-from.result))) = subst IsSome c.find_node.ensures
    (c.is_nothing.ensures.something c.if-is_nothing.false) in
    let room : c.can_take.result ≡ true = search rules in
    at_paths (path_text c.new-from.result) c.args.from.now (path_text c.new-to.result) c.args.to.now (entries_tree c.args.entries.now)
    c.given_memory-2.result
    c.new-from.ensures c.new-to.ensures
    (changed-if (HasNothing tree to) (Takes from to) tree (after_rename (from, to) tree)
    c.renamed.result c.given_memory-2.result c.given_memory-2.ensures (c.can_take.ensures.takes room).free c.renamed.ensures
    (rename-done tree from to there (c.can_take.ensures.takes room) (not_under (path_text c.new-to.result) (path_text c.new-from.result)
    (λ starts. true≢false (sym (c.starts_with.ensures.1 starts) ∙ c.if-starts_with.false)))))
