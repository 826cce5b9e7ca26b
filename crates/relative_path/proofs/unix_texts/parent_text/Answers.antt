use Rattle.std.proofs.Common.{refl, sym, inl, inr, eqb-true}
use Rattle.std.proofs.lemmas.Bool.{eqb-false}
use Rattle.std.proofs.lemmas.List.{nil_from_length}
use Rattle.relative_path.specs.Components.{text_left, TakesLast}
use Rattle.relative_path.specs.Unix.{has_root}
use Rattle.relative_path.proofs.UnixAboveLemmas.{EndsInCounted, EndsInCounted-from, IsAbove-parent, IsAbove-root}
use Rattle.relative_path.proofs.unix_texts.parent_text.Goals as goal
use Rattle.relative_path.proofs.unix_texts.parent_text.Goals.{After-trim_uncounted_end-parent, else-rooted-via-then-rooted+else-is_empty, else-rooted-via-else-rooted}

-- the text without what doesn't count at its end, the component taken off it, and the rest without what doesn't count
cut : (c : After-trim_uncounted_end-parent)
    → EndsInCounted (has_root c.args.text.now) c.args.text.now c.trim_uncounted_end.result.now
    × TakesLast c.trim_uncounted_end.result.now c.next_back.result (text_left c.next_back.new.self)
    × EndsInCounted (has_root c.args.text.now) (text_left c.next_back.new.self) c.trim_uncounted_end-parent.result.now
cut c =
    let e = c.trim_uncounted_end.ensures in
    let e' = c.trim_uncounted_end-parent.ensures in (
      EndsInCounted-from c.has_root-rooted.ensures refl e.prefix e.end e.same e.last,
      rw c.new-components.ensures at c.next_back.ensures.steps,
      EndsInCounted-from c.has_root-rooted.ensures c.as_str.ensures e'.prefix e'.end e'.same e'.last,
    )

pub returns-then-is_empty : goal.returns-then-is_empty
returns-then-is_empty c =
    let (trimmed, takes, trimmed') = cut (goal.at.returns-then-is_empty c).After-trim_uncounted_end-parent in
    let empty = nil_from_length _ (eqb-true _ 0 (sym c.if-is_empty.ensures)) in
    IsAbove-root _ _ _ _ c.next_back.result c.if-is_none.ensures trimmed takes trimmed' (sym c.if-rooted.ensures) empty

pub returns-else-rooted : goal.returns-else-rooted
returns-else-rooted c =
    let (trimmed, takes, trimmed') = cut (goal.at.returns-else-rooted c).After-trim_uncounted_end-parent in
    IsAbove-parent _ _ _ _ c.next_back.result c.if-is_none.ensures trimmed takes trimmed' (elim c.else-rooted.branch [
      | else-rooted-via-then-rooted+else-is_empty w ↦
          inr (λ none. eqb-false _ 0 (sym w.if-is_empty.ensures) none)
      | else-rooted-via-else-rooted w ↦ inl (sym w.if-rooted.ensures)
    ])
