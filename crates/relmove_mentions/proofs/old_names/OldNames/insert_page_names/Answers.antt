-- The path with `html` is inserted, and then the one without an extension.
use Rattle.std.proofs.Common.{◌++◌, ◌∷◌, [], ap, codes, refl, sym, ◌∙◌}
use Rattle.relative_path.specs.Editing.{kept}
use Rattle.relative_path.specs.Naming.{file_name_of, stem_of}
use Rattle.relative_path.specs.RelativePath.{path_components}
use Rattle.relative_path.specs.Steps.{components, dot, name}
use Rattle.relative_path_places.specs.Views.{view_text}
use Rattle.relmove_mentions.proofs.OldNamesLemmas.{Lists-page}
use Rattle.relmove_mentions.proofs.old_names.OldNames.insert_page_names.Goals as goal

pub returns-clause-lists : goal.returns-clause-lists
returns-clause-lists c = λ names lists.
    let text = view_text c.args.old in
    let text_is = c.as_relative_path-path.ensures.text in
    Lists-page names text (kept (components text)) (path_components c.as_relative_path.result) (file_name_of text)
    c.insert_bare_name.new.self (rw text_is at (sym c.is_page.ensures ∙ c.if-not-is_page.false))
    (λ n is.
    ap components c.as_relative_path.ensures
    ∙ c.in_ok-html.ensures.components n (ap file_name_of text_is ∙ is) refl
    ∙ ap (λ t. kept (components t) ++ name (stem_of n ++ dot ∷ codes "html") ∷ []) text_is)
    (c.in_ok-insert_bare_name.ensures.lists _ (c.in_ok-insert.ensures.lists names lists))
