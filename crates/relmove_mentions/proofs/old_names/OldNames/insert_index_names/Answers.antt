-- The `index.html` of the directory, and the directory, are inserted.
use Rattle.std.proofs.Common.{◌≡◌, ◌++◌, ◌∷◌, [], ap, codes, refl, sym, ◌∙◌}
use Rattle.relative_path.specs.Editing.{kept}
use Rattle.relative_path.specs.Naming.{file_name_of}
use Rattle.relative_path.specs.RelativePath.{path_components}
use Rattle.relative_path.specs.Steps.{components, name}
use Rattle.relative_path.proofs.OnLiterals.{relative_path_on_literals}
use Rattle.relative_path_places.specs.Views.{view_text}
use Rattle.relmove_mentions.proofs.OldNamesLemmas.{Lists-index}
use Rattle.relmove_mentions.proofs.old_names.OldNames.insert_index_names.Goals as goal

html-components : components (codes "index.html") ≡ name (codes "index.html") ∷ []
unfolding relative_path_on_literals
html-components = refl

pub returns-clause-lists : goal.returns-clause-lists
returns-clause-lists c = λ names lists.
    let text = view_text c.args.old in
    let text_is = c.as_relative_path-path.ensures.text in
    let directory_is = c.directory-directory.ensures.components ∙ ap (λ t. kept (components t)) text_is in
    Lists-index names text (kept (components text)) (path_components c.as_relative_path.result) (file_name_of text)
    c.insert_directory.new.self (rw text_is at (sym c.is_index_page.ensures ∙ c.if-not-is_index_page.false))
    (ap components c.as_relative_path.ensures ∙ c.in_ok-html.ensures.components
    ∙ ap (λ t. path_components c.directory-directory.result ++ components t) c.new.ensures
    ∙ ap (λ cs. path_components c.directory-directory.result ++ cs) html-components
    ∙ ap (λ cs. cs ++ name (codes "index.html") ∷ []) directory_is)
    (rw directory_is at (c.in_ok-insert_directory.ensures.lists _ (c.in_ok-insert.ensures.lists names lists)))
