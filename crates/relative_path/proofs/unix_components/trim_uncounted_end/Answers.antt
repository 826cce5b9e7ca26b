use Rattle.std.proofs.Common.{length, refl, sym, ap, ◌∙◌, inl, inr, eqb-true}
use Rattle.std.proofs.lemmas.Bool.{eqb-false, not-true, not-false}
use Rattle.std.proofs.lemmas.List.{nil_from_length}
use Rattle.relative_path.proofs.UnixComponentsLemmas.{LosesUncounted-cur, LastCounts-taken}
use Rattle.relative_path.proofs.unix_components.trim_uncounted_end.Goals as goal
use Rattle.relative_path.proofs.unix_components.trim_uncounted_end.Goals.{then-rooted, else-rooted}

pub returns-in_default-clause-last : goal.returns-in_default-clause-last
returns-in_default-clause-last c =
    rw c.as_str-left.ensures
    (LastCounts-taken _ _ _ c.next_back.result c.next_back.ensures.steps (elim c.if-rooted.branch [
      | then-rooted w ↦ absurd (cc)
      | else-rooted w ↦
          let empty = not-false _ (sym w.value-is ∙ c.if-not-is_empty.false) in
          inr (sym w.as_str.ensures ∙ nil_from_length _ (eqb-true _ 0 (sym w.is_empty.ensures ∙ empty)), w.if-rooted.false)
    ]))

pub loop-components-preserved : goal.loop-components-preserved
loop-components-preserved c =
    LosesUncounted-cur _ _ _ _ c.next_back.result (rw (c.in-Some-CurDir.is, c.in-Some-CurDir.field-0-is) refl)
    c.loop-components.invariant c.next_back.ensures.steps (elim c.if-rooted.branch [
      | then-rooted w ↦ inr w.if-rooted.true
      | else-rooted w ↦
          let some = not-true _ (sym w.value-is ∙ c.if-not-is_empty.true) in
          inl (λ none. eqb-false _ 0 (sym w.is_empty.ensures ∙ some) (ap length (w.as_str.ensures ∙ none)))
    ])
