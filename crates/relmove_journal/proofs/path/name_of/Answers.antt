use Rattle.std.proofs.Common.{inl, inr, refl}
use Rattle.relmove_journal.proofs.ShapeLemmas.{rsplit-parts}
use Rattle.relmove_journal.proofs.path.name_of.Goals as goal

pub returns-in-Some : goal.returns-in-Some
returns-in-Some c =
    let (joined, none) = rw c.in-Some.is at (rsplit-parts c.args.path.now _ c.rsplit_once.ensures.cases) in
    record { name = (none, inr (c.in-Some.field-0-0.now, joined)) }

pub returns-in-None : goal.returns-in-None
returns-in-None c =
    let none = rw c.in-None.is at (rsplit-parts c.args.path.now _ c.rsplit_once.ensures.cases) in
    record { name = (none, inl refl) }
