-- The tail of a target with a dot before it is a tail of the target, one byte before.
use Rattle.relative_path_links.proofs.SiteRootLemmas.{IsTailAt-without_dot}
use Rattle.relative_path_links.proofs.site_root.without_dot.Goals as goal

pub returns-then-leads_from_root-clause-tail : goal.returns-then-leads_from_root-clause-tail
returns-then-leads_from_root-clause-tail c = λ syntax target is.
    rw c.saturating_sub.ensures
    (IsTailAt-without_dot syntax target c.in-Path.tail_at (rw c.in-Path.is at is))
