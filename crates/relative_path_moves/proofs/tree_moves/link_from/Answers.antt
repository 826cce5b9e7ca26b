-- From above the top no list leads to a place.
use Rattle.std.proofs.Common.{◌≡◌, ◌≢◌, None, true≢false, sym, ◌∙◌, rules}
use Rattle.relative_path.specs.Steps.{components}
use Rattle.relative_path.specs.Walk.{place_of}
use Rattle.relative_path_moves.proofs.TreeMovesLemmas.{unreachable-place}
use Rattle.relative_path_moves.proofs.tree_moves.link_from.Goals as goal

pub returns-in_default-names-clause-no_path : goal.returns-in_default-names-clause-no_path
returns-in_default-names-clause-no_path c = λ _.
    let none : place_of (components c.args.directory.now) ≡ None = search rules in
    let some : place_of (components c.args.file.now) ≢ None = search rules in (
      λ leads. true≢false (sym (c.leads_to.ensures.1 leads) ∙ c.if-leads_to.false),
      (some, unreachable-place (components c.args.directory.now) (components c.args.file.now) none some),
    )
