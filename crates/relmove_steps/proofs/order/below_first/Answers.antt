-- Sorted, and then taken from the last.
use Rattle.std.proofs.Common.{List, ℕ, map, string_bytes}
use Rattle.std.proofs.lemmas.Result.{IfOk-weaker}
use Rattle.std.proofs.lemmas.List.Sorted.{IsPermutation-map, IsPermutation-reverse, IsPermutation-trans}
use Rattle.std.specs.Cmp.Lexicographic.{slice_cmp}
use Rattle.std.specs.Ordering.{nat_cmp}
use Rattle.relmove_steps.specs.Actions.{rename_text, to_name}
use Rattle.relmove_steps.proofs.OrderLemmas.{AboveFirst-sorted, BelowFirst-reverse, map_part-reverse}
use Rattle.relmove_steps.proofs.order.below_first.Goals as goal

pub returns-clause-order : goal.returns-clause-order
returns-clause-order c =
    IfOk-weaker c.leaving_from_last.result _ _
    (λ staged is.
    rw (map_part-reverse (λ (paths : List ℕ × List ℕ). paths.0) rename_text to_name staged.items c.sort.new.self.items is)
    (BelowFirst-reverse _ (AboveFirst-sorted c.sort.new.self.items (λ pair. string_bytes pair.0)
    (λ a b. slice_cmp nat_cmp (string_bytes a.1) (string_bytes b.1)) c.in_ok-sort.ensures.sorted)))
    c.leaving_from_last.ensures

pub returns-clause-same : goal.returns-clause-same
returns-clause-same c =
    let sorted = c.sort.new.self.items in
    IfOk-weaker c.leaving_from_last.result _ _
    (λ staged is. rw is (IsPermutation-trans _ _ _
    (IsPermutation-map to_name c.args.leaving.items sorted c.in_ok-sort.ensures.permutation)
    (IsPermutation-reverse (map to_name sorted))))
    c.leaving_from_last.ensures
