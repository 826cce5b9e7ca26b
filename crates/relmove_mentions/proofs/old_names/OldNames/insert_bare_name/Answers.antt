-- The path without its extension is inserted.
use Rattle.std.proofs.Common.{◌++◌, ◌∷◌, [], ap, refl, sym, ◌∙◌}
use Rattle.relative_path.specs.Editing.{kept}
use Rattle.relative_path.specs.Naming.{file_name_of, stem_of}
use Rattle.relative_path.specs.RelativePath.{path_components}
use Rattle.relative_path.specs.Steps.{classed, components}
use Rattle.relative_path_places.specs.Views.{view_text}
use Rattle.relmove_mentions.proofs.OldNamesLemmas.{Lists-bare}
use Rattle.relmove_mentions.proofs.old_names.OldNames.insert_bare_name.Goals as goal

pub returns-clause-lists : goal.returns-clause-lists
returns-clause-lists c = λ names lists.
    let text = view_text c.args.old in
    let text_is = c.as_relative_path-path.ensures.text in
    Lists-bare names text (kept (components text)) (path_components c.as_relative_path.result) (file_name_of text)
    c.insert.new.self (rw text_is at (sym c.has_bare_name.ensures ∙ c.if-not-has_bare_name.false))
    (λ n is.
    ap components c.as_relative_path.ensures
    ∙ c.in_ok-bare.ensures.bare n (ap file_name_of text_is ∙ is) refl
    ∙ ap (λ t. kept (components t) ++ classed (stem_of n) ∷ []) text_is)
    (c.in_ok-insert.ensures.lists names lists)
