use Rattle.std.proofs.Common.{sym, ◌∙◌}
use Rattle.relmove_journal.specs.Shape.{is_name}
use Rattle.relmove_journal.proofs.ShapeLemmas.{leads_to-refused, leads_to-rsplit, leads_to-tested}
use Rattle.relmove_journal.proofs.shape.is_path.Goals as goal

pub returns-then-is_directory_path : goal.returns-then-is_directory_path
returns-then-is_directory_path c =
    let parts = rw c.in-Some.is at (leads_to-rsplit is_name c.args.path.now _ c.rsplit_once.ensures.cases) in
    c.is_name.ensures ∙ leads_to-tested _ _ _ _ parts c.is_directory_path.ensures c.if-is_directory_path.true

pub returns-else-is_directory_path : goal.returns-else-is_directory_path
returns-else-is_directory_path c =
    let parts = rw c.in-Some.is at (leads_to-rsplit is_name c.args.path.now _ c.rsplit_once.ensures.cases) in
    leads_to-refused _ _ _ _ parts c.is_directory_path.ensures c.if-is_directory_path.false

pub returns-in-None : goal.returns-in-None
returns-in-None c =
    let whole = rw c.in-None.is at (leads_to-rsplit is_name c.args.path.now _ c.rsplit_once.ensures.cases) in
    c.is_name-in-None.ensures ∙ sym whole
