-- The names are inserted one after another.
use Rattle.std.proofs.Common.{ap}
use Rattle.relative_path.specs.Editing.{kept}
use Rattle.relative_path.specs.Naming.{file_name_of}
use Rattle.relative_path.specs.RelativePath.{path_components}
use Rattle.relative_path.specs.Steps.{components}
use Rattle.relative_path_places.specs.Views.{view_text}
use Rattle.relmove_mentions.specs.Names.{index_names, page_names}
use Rattle.relmove_mentions.proofs.OldNamesLemmas.{Lists-together}
use Rattle.relmove_mentions.proofs.old_names.OldNames.insert_names.Goals as goal

pub returns-clause-lists : goal.returns-clause-lists
returns-clause-lists c = λ names lists.
    let text = view_text c.args.old in
    let directory = kept (components text) in
    Lists-together names text (path_components c.as_relative_path.result) (components text)
    (page_names directory (file_name_of text)) (index_names directory (file_name_of text)) c.insert_index_names.new.self
    (ap components c.as_relative_path.ensures.text)
    (c.in_ok-insert_index_names.ensures.lists _
    (c.in_ok-insert_page_names.ensures.lists _ (c.in_ok-insert.ensures.lists names lists)))
