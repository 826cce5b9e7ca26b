use Rattle.std.proofs.Common.{Err, Some, false, rules, subst, sym, true, ◌∙◌, ◌≡◌}
use Rattle.relative_path.specs.RelativePath.{path_text}
use Rattle.relmove_trees.specs.FileTrees.{Directory, names_of, with_node}
use Rattle.relmove_stages.specs.StageActions.{Makes}
use Rattle.relmove_stages_disk.proofs.ActingLemmas.{changed, make-done, make-no_room, make-there}
use Rattle.relmove_stages_disk.specs.Acting.{Answers}
use Rattle.relmove_stages_disk.specs.Entries.{entries_tree}
use Rattle.relmove_stages_disk.specs.declared.fault.Fault.TheVariants.{Refused}
use Rattle.relmove_stages_disk.proofs.actions.after_making.Goals as goal

pub returns-then-is_directory : goal.returns-then-is_directory
returns-then-is_directory c =
    let tree = entries_tree c.args.entries.now in
    let place = names_of (path_text c.new-path.result) in
    subst (λ text. Answers (Makes (names_of text)) (entries_tree c.args.entries.now) c.given_memory.result) c.new-path.ensures
    (changed (Makes place) tree tree c.copies_of.result c.given_memory.result c.given_memory.ensures c.copies_of.ensures
    (make-there tree place (sym c.find_node.ensures ∙ c.is_directory.ensures.yes c.if-is_directory.true)))

pub returns-then-not-can_take : goal.returns-then-not-can_take
returns-then-not-can_take c =
    let tree = entries_tree c.args.entries.now in
    let place = names_of (path_text c.new-path.result) in
    let no_room : c.can_take.result ≡ false = search rules in
    subst (λ text. Answers (Makes (names_of text)) (entries_tree c.args.entries.now) (Err Refused)) c.new-path.ensures
    (make-no_room tree place (λ is. c.is_directory.ensures.no c.if-is_directory.false (c.find_node.ensures ∙ is))
    (c.can_take.ensures.none no_room))

pub returns : goal.returns
returns c =
    let room : c.can_take.result ≡ true = search rules in
    let tree = entries_tree c.args.entries.now in
    let place = names_of (path_text c.new-path.result) in
    subst (λ text. Answers (Makes (names_of text)) (entries_tree c.args.entries.now) c.given_memory-2.result) c.new-path.ensures
    (changed (Makes place) tree (with_node place (Some Directory) tree)
    c.with_directory.result c.given_memory-2.result c.given_memory-2.ensures c.with_directory.ensures (make-done tree place
    (λ is. c.is_directory.ensures.no c.if-is_directory.false (c.find_node.ensures ∙ is)) (c.can_take.ensures.takes room)))
