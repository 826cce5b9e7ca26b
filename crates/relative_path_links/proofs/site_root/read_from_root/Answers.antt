-- The tail is that of the target with a dot before it.
use Rattle.relative_path_links.proofs.site_root.read_from_root.Goals as goal

pub returns-clause-tail : goal.returns-clause-tail
returns-clause-tail c =
    c.without_dot.ensures.tail c.args.syntax c.args.target.now
    (rw (c.deref.ensures, c.in_ok-dotted.ensures) at c.in_ok-reading.ensures.tail)
