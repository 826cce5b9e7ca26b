use Rattle.std.proofs.Common.{sym, ◌∙◌}
use Rattle.std.proofs.lemmas.Slice.Eq.{bytes_eq-Decides}
use Rattle.relmove_journal.proofs.journal.is_text_of.Goals as goal

pub returns : goal.returns
returns c =
    let written = c.as_str.ensures.value ∙ c.in_ok-written.ensures.text in
    let decides = bytes_eq-Decides c.as_str.result.now c.args.text.now in (
      λ is. sym (decides.0 (sym c.eq.ensures ∙ is)) ∙ written,
      λ same. c.eq.ensures ∙ decides.1 (written ∙ sym same),
    )
