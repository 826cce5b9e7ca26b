use Rattle.std.proofs.Common.{Some, None, lit<}
use Rattle.std.proofs.lemmas.Str.Pattern.{split_after}
use Rattle.relmove_journal.specs.Reading.{fields_text, line_fields, line_word}
use Rattle.relmove_journal.proofs.ReadingLemmas.{Lacks-get_or, line_word-lacks}
use Rattle.relmove_journal.proofs.journal.read_line.Goals as goal

pub returns-in-Some : goal.returns-in-Some
returns-in-Some c = λ said fits is.
    let cut = split_after 9 c.args.line.now (line_word said) (fields_text (line_fields said))
    (Some (c.in-Some.word, c.in-Some.fields)) c.in-Some.ensures.cases (lit< tt) is
    (Lacks-get_or 9 (line_word said) (line_word-lacks said)) in
    c.read_fields.ensures said fits cut.0 cut.1

pub returns-in-None : goal.returns-in-None
returns-in-None c = λ said fits is.
    absurd (split_after 9 c.args.line.now (line_word said) (fields_text (line_fields said)) None c.in-None.ensures.cases (lit< tt) is
    (Lacks-get_or 9 (line_word said) (line_word-lacks said)))
