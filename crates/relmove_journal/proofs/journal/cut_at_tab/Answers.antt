use Rattle.std.proofs.Common.{lit<, rules}
use Rattle.std.proofs.lemmas.Str.Pattern.{split_after}
use Rattle.relmove_journal.proofs.ReadingLemmas.{Lacks-get_or}
use Rattle.relmove_journal.proofs.journal.cut_at_tab.Goals as goal

pub returns : goal.returns
returns c = λ front back none is.
    let cut = split_after 9 c.args.fields.now front back c.split_once.result c.split_once.ensures.cases (lit< tt) is
    (Lacks-get_or 9 front none) in search rules
