use Rattle.std.proofs.Common.{sym, ◌∙◌, true≢false}
use Rattle.relmove_journal.proofs.OnceLemmas.{AreAscending-sorted, HaveSameOnce-sorted, same-sorted}
use Rattle.relmove_journal.proofs.shape.have_same_once.Goals as goal
use Rattle.relmove_journal.proofs.shape.have_same_once.Goals.{then-eq, else-eq}

pub returns : goal.returns
returns c =
    let moved = c.in_ok-sort.ensures.permutation in
    let others_moved = c.in_ok-sort-2.ensures.permutation in
    let sorted = c.in_ok-sort.ensures.sorted in
    let others_sorted = c.in_ok-sort-2.ensures.sorted in
    let paths = c.args.paths.items in
    let others = c.args.others.items in
    let new = c.sort.new.self.items in
    let others_new = c.sort-2.new.self.items in (
      λ is. elim c.if-eq.branch [
        | then-eq w ↦
            let ascend = rw w.deref.ensures.value at (w.are_ascending.ensures.0 (sym w.result-is ∙ is)) in
            HaveSameOnce-sorted paths new others others_new moved others_moved (sym c.eq.ensures ∙ w.if-eq.true) ascend
        | else-eq w ↦ absurd (true≢false (sym is ∙ w.result-is ∙ w.if-eq.false))
      ],
      λ once. elim c.if-eq.branch [
        | then-eq w ↦
            let ascend = AreAscending-sorted paths new moved sorted once.different in
            w.result-is ∙ w.are_ascending.ensures.1 (rw w.deref.ensures.value ascend)
        | else-eq w ↦
            let same = same-sorted paths new others others_new moved others_moved sorted others_sorted once in
            absurd (true≢false (sym same ∙ sym c.eq.ensures ∙ w.if-eq.false))
      ],
    )
