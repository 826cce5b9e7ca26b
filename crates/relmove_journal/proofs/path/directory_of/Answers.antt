use Rattle.std.proofs.Common.{inl, inr, refl}
use Rattle.relmove_journal.proofs.ShapeLemmas.{rsplit-parts}
use Rattle.relmove_journal.proofs.path.directory_of.Goals as goal

pub returns-in-Some : goal.returns-in-Some
returns-in-Some c =
    let (joined, none) = rw c.in-Some.is at (rsplit-parts c.args.path.now _ c.rsplit_once.ensures.cases) in
    record { directory = (c.in-Some.field-0-1.now, none, inl joined) }

pub returns-in-None : goal.returns-in-None
returns-in-None c =
    let none = rw c.in-None.is at (rsplit-parts c.args.path.now _ c.rsplit_once.ensures.cases) in
    record { directory = (c.args.path.now, none, inr (refl, refl)) }
