-- The texts are those of the set, turned round.
use Rattle.std.proofs.Common.{AllPairs, true≢false, ◌≡◌, ◌≢◌, string_bytes, map, ap, subst, sym, ◌∙◌}
use mathlib.Core.List.{reverse}
use Rattle.relmove_steps.specs.Actions.{BelowFirst}
use Rattle.relmove_steps.proofs.DirectoriesLemmas.{AboveFirst-ordered, AllPairs-ordered, reverse-taken}
use Rattle.relmove_steps.proofs.OrderLemmas.{AllDifferent-reverse, BelowFirst-reverse, map-reverse}
use Rattle.relmove_steps.proofs.directories.from_last.Goals as goal

-- the texts that were taken are those of the set, turned round
texts_are : (c : goal.After-drop-set-2) → map string_bytes c.loop-text.texts.items ≡ reverse (map string_bytes c.args.set.keys)
texts_are c =
    let is =
    reverse-taken c.loop-text.texts.items c.loop-text.set.keys (reverse c.args.set.keys)
    (λ some. true≢false (sym (c.in_default.ensures.variant.1 some))) c.loop-text.invariant in
    ap (map string_bytes) is ∙ map-reverse string_bytes c.args.set.keys

pub returns-clause-order : goal.returns-clause-order
returns-clause-order c =
    subst BelowFirst (sym (texts_are c))
    (BelowFirst-reverse (map string_bytes c.args.set.keys) (AboveFirst-ordered c.args.set.keys c.len.ensures.ordered))

pub returns-clause-different : goal.returns-clause-different
returns-clause-different c =
    subst (AllPairs (λ one other. one ≢ other)) (sym (texts_are c))
    (AllDifferent-reverse (map string_bytes c.args.set.keys) (AllPairs-ordered c.args.set.keys c.len.ensures.ordered))
