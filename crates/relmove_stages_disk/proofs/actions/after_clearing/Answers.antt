use Rattle.std.proofs.Common.{Err, IsSome, None, false, rules, subst, sym, true, ◌∙◌, ◌≡◌}
use Rattle.relative_path.specs.RelativePath.{path_text}
use Rattle.relmove_trees.specs.FileTrees.{names_of, with_node}
use Rattle.relmove_stages.specs.StageActions.{Clears}
use Rattle.relmove_stages_disk.proofs.ActingLemmas.{changed, clear-below, clear-done, clear-gone, clear-other}
use Rattle.relmove_stages_disk.specs.Acting.{Answers}
use Rattle.relmove_stages_disk.specs.Entries.{entries_tree}
use Rattle.relmove_stages_disk.specs.declared.fault.Fault.TheVariants.{Refused}
use Rattle.relmove_stages_disk.proofs.actions.after_clearing.Goals as goal

pub returns-then-has_below : goal.returns-then-has_below
returns-then-has_below c =
    let tree = entries_tree c.args.entries.now in
    let place = names_of (path_text c.new-path.result) in
    subst (λ text. Answers (Clears (names_of text)) (entries_tree c.args.entries.now) c.given_memory.result) c.new-path.ensures
    (changed (Clears place) tree tree c.copies_of.result c.given_memory.result c.given_memory.ensures c.copies_of.ensures
    (clear-below tree place (c.has_below.ensures.below c.if-has_below.true)))

pub returns-then-is_nothing : goal.returns-then-is_nothing
returns-then-is_nothing c =
    let tree = entries_tree c.args.entries.now in
    let place = names_of (path_text c.new-path.result) in
    let gone : entries_tree c.args.entries.now (names_of (path_text c.new-path.result)) ≡ None = sym c.find_node.ensures
    ∙ c.is_nothing.ensures.nothing c.if-is_nothing.true in
    subst (λ text. Answers (Clears (names_of text)) (entries_tree c.args.entries.now) c.given_memory-then-is_nothing.result)
    c.new-path.ensures
    (changed (Clears place) tree tree c.copies_of-then-is_nothing.result c.given_memory-then-is_nothing.result
    c.given_memory-then-is_nothing.ensures c.copies_of-then-is_nothing.ensures (clear-gone tree place gone))

pub returns-then-not-is_directory : goal.returns-then-not-is_directory
returns-then-not-is_directory c =
    let tree = entries_tree c.args.entries.now in
    let place = names_of (path_text c.new-path.result) in
    let there : IsSome (entries_tree c.args.entries.now (names_of (path_text c.new-path.result))) = subst IsSome c.find_node.ensures
    (c.is_nothing.ensures.something c.if-is_nothing.false) in
    let other : c.is_directory.result ≡ false = search rules in
    subst (λ text. Answers (Clears (names_of text)) (entries_tree c.args.entries.now) (Err Refused)) c.new-path.ensures
    (clear-other tree place (c.has_below.ensures.none c.if-has_below.false) there (λ is. c.is_directory.ensures.no other
    (c.find_node-2.ensures ∙ is)))

pub returns : goal.returns
returns c =
    let tree = entries_tree c.args.entries.now in
    let place = names_of (path_text c.new-path.result) in
    let directory : c.is_directory.result ≡ true = search rules in
    subst (λ text. Answers (Clears (names_of text)) (entries_tree c.args.entries.now) c.given_memory-2.result) c.new-path.ensures
    (changed (Clears place) tree (with_node place None tree) c.without.result c.given_memory-2.result c.given_memory-2.ensures
    c.without.ensures (clear-done tree place (c.has_below.ensures.none c.if-has_below.false)
    (sym c.find_node-2.ensures ∙ c.is_directory.ensures.yes directory)))
