use Rattle.std.proofs.Common.{sym, ◌∙◌}
use Rattle.relative_path.specs.RelativePath.{path_text}
use Rattle.relmove_stages_disk.proofs.TextsLemmas.{found_at}
use Rattle.relmove_stages_disk.specs.Entries.{entries_tree, node_at}
use Rattle.relmove_stages_disk.proofs.texts.is_whole.Goals as goal

pub returns-clause-yes : goal.returns-clause-yes
returns-clause-yes c =
    λ is.
    let at =
    found_at (entries_tree c.args.entries.now) (node_at c.find_node.result) (path_text c.new.result) c.args.text.now
    c.find_node.ensures (c.new.ensures ∙ c.as_str.ensures.value) in
    let (bytes, there, text) = c.has_text.ensures.yes is in
    (bytes, sym at ∙ there, text)

pub returns-clause-no : goal.returns-clause-no
returns-clause-no c =
    λ not (bytes, there, text).
    let at =
    found_at (entries_tree c.args.entries.now) (node_at c.find_node.result) (path_text c.new.result) c.args.text.now
    c.find_node.ensures (c.new.ensures ∙ c.as_str.ensures.value) in
    c.has_text.ensures.no not bytes (at ∙ there) text
