use Rattle.std.proofs.Common.{ap, ◌∙◌}
use Rattle.relative_path.specs.Steps.{components}
use Rattle.relative_path.proofs.StepsLemmas.{components-nil}
use Rattle.relative_path.proofs.NamingEditsLemmas.{IsSame-IsPopped, IsSome-walk_popped}
use Rattle.relative_path.proofs.ListsLemmas.{nil_from_is_empty}
use Rattle.relative_path.proofs.path.RelativePath.parent.Goals as goal

-- the empty text has no component
pub returns-then-is_empty-clause-none : goal.returns-then-is_empty-clause-none
returns-then-is_empty-clause-none c =
    ap components (nil_from_is_empty _ _ c.is_empty.ensures c.if-is_empty.true) ∙ components-nil

pub returns-else-is_empty-clause-rejoined : goal.returns-else-is_empty-clause-rejoined
returns-else-is_empty-clause-rejoined c = λ n named.
    IsSame-IsPopped _ _ n (rw c.new.ensures c.parent_of.ensures) named

pub returns-else-is_empty-clause-leads : goal.returns-else-is_empty-clause-leads
returns-else-is_empty-clause-leads c = IsSome-walk_popped _ _ (rw c.new.ensures c.parent_of.ensures)
