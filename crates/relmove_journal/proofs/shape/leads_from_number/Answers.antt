use Rattle.std.proofs.Common.{sym, ap, ◌∙◌}
use Rattle.relmove_journal.specs.Shape.{leads_from_number}
use Rattle.relmove_journal.proofs.ShapeLemmas.{leads_from_number-one, leads_to-refused, leads_to-tested, names-split}
use Rattle.relmove_journal.proofs.shape.leads_from_number.Goals as goal

pub returns-then-is_number : goal.returns-then-is_number
returns-then-is_number c =
    let parts = rw c.in-Some.is at (names-split c.args.path.now _ c.split_once.ensures.cases) in
    c.is_directory_path.ensures
    ∙ leads_to-tested _ _ _ _ (ap leads_from_number parts) c.is_number.ensures c.if-is_number.true

pub returns-else-is_number : goal.returns-else-is_number
returns-else-is_number c =
    let parts = rw c.in-Some.is at (names-split c.args.path.now _ c.split_once.ensures.cases) in
    leads_to-refused _ _ _ _ (ap leads_from_number parts) c.is_number.ensures c.if-is_number.false

pub returns-in-None : goal.returns-in-None
returns-in-None c =
    let whole = rw c.in-None.is at (names-split c.args.path.now _ c.split_once.ensures.cases) in
    sym (leads_from_number-one c.args.path.now whole)
