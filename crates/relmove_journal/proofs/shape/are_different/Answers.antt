use Rattle.relmove_journal.proofs.OnceLemmas.{AreAscending-sorted, AreDifferent-sorted}
use Rattle.relmove_journal.proofs.shape.are_different.Goals as goal

pub returns : goal.returns
returns c =
    let moved = c.in_ok-sort.ensures.permutation in
    let sorted = c.in_ok-sort.ensures.sorted in (
      λ is.
          AreDifferent-sorted c.args.paths.items c.sort.new.self.items moved
          (rw c.deref.ensures.value at (c.are_ascending.ensures.0 is)),
      λ different.
          c.are_ascending.ensures.1
          (rw c.deref.ensures.value (AreAscending-sorted c.args.paths.items c.sort.new.self.items moved sorted different)),
    )
