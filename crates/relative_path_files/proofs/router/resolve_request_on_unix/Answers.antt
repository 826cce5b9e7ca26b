-- The names of the place follow the root.
use Rattle.std.proofs.Common.{◌≡◌, Some, rules}
use Rattle.relative_path.specs.Steps.{components}
use Rattle.relative_path_files.specs.FromTop.{SpellsPlace}
use Rattle.relative_path_files.proofs.RouterLemmas.{IsBelowRoot-added}
use Rattle.relative_path_files.proofs.router.resolve_request_on_unix.Goals as goal

pub returns-clause-path : goal.returns-clause-path
returns-clause-path c =
    let found : c.in_ok-place_from_top.field-0 ≡ Some c.in_ok-place.place = search rules in
    let spells : SpellsPlace (components c.args.request.now) c.in_ok-place.place.text =
    rw c.new-request.ensures at (rw found at c.in_ok-place_from_top.ensures.some) in
    IsBelowRoot-added c.args.root.now (components c.args.request.now) c.in_ok-place.place.text _ spells
    (rw c.as_relative_path.ensures at c.in_ok-path.ensures)
