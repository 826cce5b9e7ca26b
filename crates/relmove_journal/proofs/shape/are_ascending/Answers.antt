use Rattle.std.proofs.Common.{rules, tests, is_lt, ◌≡◌}
use Rattle.std.specs.Cmp.Lexicographic.{slice_cmp}
use Rattle.std.specs.Ordering.{nat_cmp}
use Rattle.std.proofs.lemmas.List.Sorted.{answers_always}
use Rattle.relmove_journal.proofs.OnceLemmas.{AreAscending-next, ascends-next}
use Rattle.relmove_journal.proofs.shape.are_ascending.Goals as goal

pub returns : goal.returns
returns c =
    let answers =
    answers_always _ (λ a r. r ≡ is_lt (slice_cmp nat_cmp a.0.now.now a.1.0.now.now)) _ (λ f a r q k. search (rules, tests)) in
    let next = c.is_sorted_by.ensures.cases (λ x y. is_lt (slice_cmp nat_cmp x.now y.now)) answers in
    (λ is. AreAscending-next c.args.paths.now (rw is at next), λ ascend. ascends-next c.args.paths.now _ next ascend)
