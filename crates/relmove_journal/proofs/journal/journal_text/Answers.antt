use Rattle.std.proofs.Common.{◌≡◌, ◌++◌, codes, ap, ap₂, ◌∙◌, string_bytes}
use Rattle.relmove_journal.specs.Journals.{end_line, head_lines, work_bytes}
use Rattle.relmove_journal.proofs.journal.journal_text.Goals as goal

pub returns : goal.returns
returns c =
    let lines = codes "relmove journal 3\n" ++ head_lines c.args.origin c.args.stage ++ work_bytes c.args.work.now in
    let before : string_bytes c.push_work.new.text ≡ lines =
    c.in_ok-push_work.ensures
    ∙ ap (λ text. text ++ work_bytes c.args.work.now)
    (c.in_ok-push_head.ensures ∙ ap (λ text. text ++ head_lines c.args.origin c.args.stage) c.in_ok-text.ensures.ok) in
    let end : c.as_str-2.result.now ≡ end_line lines =
    c.as_str-2.ensures.value ∙ c.in_ok-end.ensures ∙ ap end_line (c.as_str.ensures.value ∙ before) in
    record { text = c.in_ok-push_str.ensures.bytes ∙ ap₂ ◌++◌ before end }
