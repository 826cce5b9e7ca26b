use Rattle.std.proofs.Common.{Err, IsSome, None, false, rules, subst, sym, true, ◌∙◌, ◌≡◌}
use Rattle.relative_path.specs.RelativePath.{path_text}
use Rattle.relmove_trees.specs.FileTrees.{names_of, with_node}
use Rattle.relmove_stages.specs.StageActions.{Removes}
use Rattle.relmove_stages_disk.proofs.ActingLemmas.{changed, remove-done, remove-gone, remove-other}
use Rattle.relmove_stages_disk.specs.Acting.{Answers}
use Rattle.relmove_stages_disk.specs.Entries.{entries_tree}
use Rattle.relmove_stages_disk.specs.declared.fault.Fault.TheVariants.{Refused}
use Rattle.relmove_stages_disk.proofs.actions.after_removal.Goals as goal

pub returns-then-is_nothing : goal.returns-then-is_nothing
returns-then-is_nothing c =
    let tree = entries_tree c.args.entries.now in
    let place = names_of (path_text c.new-path.result) in
    let gone : entries_tree c.args.entries.now (names_of (path_text c.new-path.result)) ≡ None = sym c.find_node.ensures
    ∙ c.is_nothing.ensures.nothing c.if-is_nothing.true in
    subst (λ text. Answers (Removes (names_of text) c.args.digest.now) (entries_tree c.args.entries.now) c.given_memory.result)
    c.new-path.ensures
    (changed (Removes place c.args.digest.now) tree tree c.copies_of.result c.given_memory.result c.given_memory.ensures
    c.copies_of.ensures (remove-gone tree place c.args.digest.now gone))

pub returns-then-not-has_text : goal.returns-then-not-has_text
returns-then-not-has_text c =
    let tree = entries_tree c.args.entries.now in
    let place = names_of (path_text c.new-path.result) in
    let there : IsSome (entries_tree c.args.entries.now (names_of (path_text c.new-path.result))) = subst IsSome c.find_node.ensures
    (c.is_nothing.ensures.something c.if-is_nothing.false) in
    let other : c.has_text.result ≡ false = search rules in
    subst (λ text. Answers (Removes (names_of text) c.args.digest.now) (entries_tree c.args.entries.now) (Err Refused)) c.new-path.ensures
    (remove-other tree place c.args.digest.now there (λ bytes is. c.has_text.ensures.no other bytes (c.find_node-2.ensures ∙ is)))

pub returns : goal.returns
returns c =
    let tree = entries_tree c.args.entries.now in
    let place = names_of (path_text c.new-path.result) in
    let has : c.has_text.result ≡ true = search rules in
    let is = c.has_text.ensures.yes has in
    let there : IsSome (entries_tree c.args.entries.now (names_of (path_text c.new-path.result))) = subst IsSome c.find_node.ensures
    (c.is_nothing.ensures.something c.if-is_nothing.false) in
    subst (λ text. Answers (Removes (names_of text) c.args.digest.now) (entries_tree c.args.entries.now) c.given_memory-2.result)
    c.new-path.ensures
    (changed (Removes place c.args.digest.now) tree (with_node place None tree)
    c.without.result c.given_memory-2.result c.given_memory-2.ensures c.without.ensures
    (remove-done tree place c.args.digest.now there (is.0, sym c.find_node-2.ensures ∙ is.1, is.2)))
