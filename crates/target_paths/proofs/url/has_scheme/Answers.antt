use Rattle.std.proofs.Common.{rules, ap₂, ap, ◌∙◌, sym, ◌&&◌}
use Rattle.target_paths.specs.Url.{is_colon, is_scheme}
use Rattle.target_paths.proofs.FirstLemmas.{list_any-some, list_any-none, before_first-some}
use Rattle.std.specs.List.{before_first}
use Rattle.target_paths.proofs.UrlLemmas.{has_scheme-none}
use Rattle.target_paths.proofs.url.has_scheme.Goals as goal

pub returns-in-Some : goal.returns-in-Some
returns-in-Some c =
    let is = sym c.in-Some.ensures in
    c.is_scheme.ensures
    ∙ sym (ap₂ (λ any first. any && is_scheme first) (list_any-some is_colon c.args.text.now _ is)
    (before_first-some is_colon c.args.text.now _ is))

pub returns-in-None : goal.returns-in-None
returns-in-None c =
    sym (ap (λ any. any && is_scheme (before_first is_colon c.args.text.now))
    (list_any-none is_colon c.args.text.now (sym c.in-None.ensures)))

pub returns-then-not-begins_with_letter : goal.returns-then-not-begins_with_letter
returns-then-not-begins_with_letter c = sym (has_scheme-none c.args.text.now (search rules))
