-- What is written and what is left to write make the whole text, which fits the capacity.
use Rattle.std.proofs.Common.{◌≡◌, ◌≤◌, drop, length, string_bytes}
use Rattle.std.specs.String.{string_capacity}
use Rattle.relative_path.specs.NormalForm.{ups_then_names, form_names}
use Rattle.relative_path.specs.Steps.{spell}
use Rattle.relative_path.proofs.SpansLemmas.{with_unwritten, unwritten_count, IsCutUnwritten}
use Rattle.relative_path.proofs.normal_form.NormalForm.spelled_past.Given as goal

abbrev pub invariant-loop-next : goal.invariant-loop-next
invariant-loop-next l =
    let whole = spell (ups_then_names l.climb (drop l.skipped (form_names l.self))) in
    record {
      text : with_unwritten l.self.sources (string_bytes l.text) l.next ≡ whole;
      cut : IsCutUnwritten l.self.sources l.next;
      room : length whole ≤ string_capacity l.text;
    }

abbrev pub decreases-loop-next : goal.decreases-loop-next
decreases-loop-next l = unwritten_count l.next
