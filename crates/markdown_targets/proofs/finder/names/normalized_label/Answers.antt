-- Each byte is a space, or is added after the space before its word.
use Rattle.std.proofs.Common.{◌+◌, false, not, ◌==◌, [], ◌∷◌, ◌++◌, length, get_or, ◌≡◌, sym, ap, subst, ◌∙◌}
use Rattle.std.specs.Char.{to_ascii_lowercase}
use Rattle.std.specs.Vec.{vec_len}
use Rattle.markdown_targets.proofs.LabelsLemmas.{IsSoFar, IsSoFar-start, IsSoFar-space, IsSoFar-byte, gap, no_gap, with_gap, at_start, within_word}
use Rattle.markdown_targets.proofs.finder.names.normalized_label.Goals as goal
use Rattle.markdown_targets.proofs.finder.names.normalized_label.Goals.{then-is_space, else-is_space+in_ok-push-2, then-is_apart+then-not-is_empty+in_ok-push, else-is_apart, else-is_apart-via-then-is_apart+else-not-is_empty, else-is_apart-via-else-is_apart}

pub loop-byte-init : goal.loop-byte-init
loop-byte-init c =
    subst (λ l. IsSoFar c.args.name.now l false 0) (sym c.in_ok-normalized.ensures.items) (IsSoFar-start c.args.name.now)

pub loop-byte-preserved : goal.loop-byte-preserved
loop-byte-preserved c =
    let label = c.args.name.now in
    let items = c.loop-byte.normalized.items in
    let apart = c.loop-byte.is_apart in
    let k = c.loop-byte.byte-index in
    let counted : vec_len c.loop-byte.normalized ≡ length items = search in
    elim c.if-is_space.branch [
      | then-is_space w ↦
          subst (λ f. IsSoFar label f.items c.if-is_space.is_apart (k + 1)) (sym w.normalized-is)
          (subst (λ a. IsSoFar label items a (k + 1)) (sym w.is_apart-is)
          (IsSoFar-space label items apart k c.loop-byte-test.true (sym w.if-is_space.ensures) c.loop-byte.invariant))
      | else-is_space+in_ok-push-2 w ↦
          let low = to_ascii_lowercase (get_or label k 0) in
          let begun = not (length items == 0) in
          let spaced : w.if-is_apart.normalized.items ++ (low ∷ []) ≡ items ++ gap begun apart ++ (low ∷ []) =
          elim w.if-is_apart.branch [
            | then-is_apart+then-not-is_empty+in_ok-push v ↦
                ap (λ f. f.items ++ (low ∷ [])) v.normalized-is
                ∙ ap (λ l. l ++ (low ∷ [])) v.in_ok-push.ensures.items
                ∙ ap (λ g. items ++ g ++ (low ∷ [])) (sym (with_gap c.loop-byte.normalized.len (length items)
                apart counted v.if-is_apart.true (sym v.if-not-is_empty.ensures)))
            | else-is_apart v ↦ elim v.else-is_apart.branch [
              | else-is_apart-via-then-is_apart+else-not-is_empty u ↦
                  ap (λ f. f.items ++ (low ∷ [])) v.normalized-is ∙ no_gap items apart low
                  (at_start (vec_len c.loop-byte.normalized) (length items) apart counted (sym u.if-not-is_empty.ensures))
              | else-is_apart-via-else-is_apart u ↦
                  ap (λ f. f.items ++ (low ∷ [])) v.normalized-is ∙ no_gap items apart low
                  (within_word (length items) apart u.if-is_apart.false)
            ]
          ] in
          subst (λ f. IsSoFar label f.items c.if-is_space.is_apart (k + 1)) (sym w.normalized-is)
          (subst (λ a. IsSoFar label w.push-else-is_space.new.self.items a (k + 1)) (sym w.is_apart-is)
          (IsSoFar-byte label items w.push-else-is_space.new.self.items apart k c.loop-byte-test.true
          (sym w.if-is_space.ensures)
          (w.in_ok-push-2.ensures.items
          ∙ ap (λ b. w.if-is_apart.normalized.items ++ (b ∷ [])) w.to_ascii_lowercase.ensures.value
          ∙ spaced)
          c.loop-byte.invariant))
    ]
