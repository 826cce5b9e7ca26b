-- Sorted, turned round, and then taken from the last.
use Rattle.std.proofs.Common.{List, ℕ, map, string_bytes, sym, subst}
use Rattle.std.proofs.lemmas.Result.{IfOk-weaker}
use Rattle.std.proofs.lemmas.List.Sorted.{IsPermutation-map, IsPermutation-reverse, IsPermutation-trans}
use Rattle.std.specs.Cmp.Lexicographic.{slice_cmp}
use Rattle.std.specs.List.Sorted.{IsPermutation}
use Rattle.std.specs.Ordering.{nat_cmp}
use Rattle.relmove_steps.specs.Actions.{from_name, rename_text}
use Rattle.relmove_steps.proofs.OrderLemmas.{AboveFirst-sorted, AboveFirst-twice, map_part-reverse}
use Rattle.relmove_steps.proofs.order.above_first.Goals as goal

pub returns-clause-order : goal.returns-clause-order
returns-clause-order c =
    let turned = c.reverse.new.self.items in
    IfOk-weaker c.arrivals_from_last.result _ _
    (λ placed is.
    rw (map_part-reverse (λ (paths : List ℕ × List ℕ). paths.1) rename_text from_name placed.items turned is)
    (AboveFirst-twice c.sort.new.self.items turned (λ pair. string_bytes pair.0) c.reverse.ensures.items
    (AboveFirst-sorted c.sort.new.self.items (λ pair. string_bytes pair.0)
    (λ a b. slice_cmp nat_cmp (string_bytes a.1) (string_bytes b.1)) c.in_ok-sort.ensures.sorted)))
    c.arrivals_from_last.ensures

pub returns-clause-same : goal.returns-clause-same
returns-clause-same c =
    let sorted = c.sort.new.self.items in
    let turned = c.reverse.new.self.items in
    let round = subst (IsPermutation sorted) (sym c.reverse.ensures.items) (IsPermutation-reverse sorted) in
    IfOk-weaker c.arrivals_from_last.result _ _
    (λ placed is. rw is (IsPermutation-trans _ _ _
    (IsPermutation-map from_name c.args.arrivals.items turned
    (IsPermutation-trans _ _ _ c.in_ok-sort.ensures.permutation round))
    (IsPermutation-reverse (map from_name turned))))
    c.arrivals_from_last.ensures
