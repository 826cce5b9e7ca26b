-- A directory without a byte has no component.
use Rattle.std.proofs.Common.{sym, ◌∙◌}
use Rattle.std.proofs.lemmas.Bool.{eqb-true}
use Rattle.std.proofs.lemmas.List.{nil_from_length}
use Rattle.relative_path_places.specs.Views.{view_text}
use Rattle.relmove_checks.proofs.AboveLemmas.{length-components}
use Rattle.relmove_checks.proofs.above.directory_above.Goals as goal

pub returns-then-is_empty : goal.returns-then-is_empty
returns-then-is_empty c =
    let empty = nil_from_length c.as_str.result.now (eqb-true _ 0 (sym c.is_empty.ensures ∙ c.if-is_empty.true)) in
    let (last, ends) = c.in_ok-directory.ensures.components in
    length-components (view_text c.args.path) (view_text c.in_ok-directory.directory) last ends
    (sym (c.as_str.ensures ∙ c.as_relative_path.ensures.text) ∙ empty)
