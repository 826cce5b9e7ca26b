-- The names of the place aren't all plain, or they are and follow the root.
use Rattle.std.proofs.Common.{◌≡◌, Some, rules}
use Rattle.std.proofs.lemmas.Bool.{both_ways}
use Rattle.relative_path.specs.Steps.{components}
use Rattle.relative_path_files.specs.FromTop.{SpellsPlace}
use Rattle.relative_path_files.proofs.RouterLemmas.{IsBelowRoot-added, HasPlainPlace-text}
use Rattle.relative_path_files.proofs.NamesLemmas.{All-place}
use Rattle.relative_path_files.specs.Names.{IsPlainName}
use Rattle.relative_path_files.proofs.router.resolve_request.Goals as goal
use Rattle.relative_path_files.proofs.router.resolve_request.Goals.{In_ok-place}

-- the place that the request leads to
spells : (c : In_ok-place) → SpellsPlace (components c.args.request.now) c.in_ok-place.place.text
spells c =
    let found : c.in_ok-place_from_top.field-0 ≡ Some c.in_ok-place.place = search rules in
    rw c.new-request.ensures at (rw found at c.in_ok-place_from_top.ensures.some)

pub returns-then-not-has_plain_names-clause-refused : goal.returns-then-not-has_plain_names-clause-refused
returns-then-not-has_plain_names-clause-refused c =
    let place = spells (goal.at.returns-then-not-has_plain_names-clause-refused c).In_ok-place in (
      place.place,
      place.named,
      λ plain. both_ways c.has_plain_names.result c.if-not-has_plain_names.true
          (c.has_plain_names.ensures.plain.1 (rw c.as_relative_path-place.ensures
          (All-place IsPlainName (components c.args.request.now) c.in_ok-place.place.text place plain))),
    )

pub returns-clause-path : goal.returns-clause-path
returns-clause-path c =
    IsBelowRoot-added c.args.root.now (components c.args.request.now) c.in_ok-place.place.text _
    (spells (goal.at.returns-clause-path c).In_ok-place)
    (rw c.as_relative_path-place.ensures at c.in_ok-path.ensures)

pub returns-clause-plain : goal.returns-clause-plain
returns-clause-plain c =
    HasPlainPlace-text (components c.args.request.now) c.in_ok-place.place.text
    (spells (goal.at.returns-clause-plain c).In_ok-place)
    (rw c.as_relative_path-place.ensures at
    (c.has_plain_names.ensures.plain.0 c.if-not-has_plain_names.false))
