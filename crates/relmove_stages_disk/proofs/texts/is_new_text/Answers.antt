use Rattle.std.proofs.Common.{IsSome, inl, subst, sym, ◌∙◌}
use Rattle.relative_path.specs.RelativePath.{path_text}
use Rattle.relmove_stages_disk.proofs.TextsLemmas.{found_at, not-new}
use Rattle.relmove_stages_disk.specs.Entries.{entries_tree, node_at}
use Rattle.relmove_stages_disk.proofs.texts.is_new_text.Goals as goal

pub returns-then-is_nothing-clause-yes : goal.returns-then-is_nothing-clause-yes
returns-then-is_nothing-clause-yes c =
    λ is.
    let at =
    found_at (entries_tree c.args.entries.now) (node_at c.find_node.result) (path_text c.new.result) c.args.text.now
    c.find_node.ensures (c.new.ensures ∙ c.as_str.ensures.value) in
    inl (sym at ∙ c.is_nothing.ensures.nothing c.if-is_nothing.true)

pub returns-clause-no : goal.returns-clause-no
returns-clause-no c =
    λ not.
    let at =
    found_at (entries_tree c.args.entries.now) (node_at c.find_node.result) (path_text c.new.result) c.args.text.now
    c.find_node.ensures (c.new.ensures ∙ c.as_str.ensures.value) in
    not-new (entries_tree c.args.entries.now) c.args.text.now
    (subst IsSome at (c.is_nothing.ensures.something c.if-is_nothing.false)) (c.is_whole.ensures.no not)
