use Rattle.std.proofs.Common.{rules}
use Rattle.std.proofs.lemmas.Fmt.{parse-decimal}
use Rattle.relmove_journal.proofs.journal.number_of.Goals as goal

pub returns-in-Ok : goal.returns-in-Ok
returns-in-Ok c = λ n small is.
    let read = parse-decimal 64 n _ _ small small is c.parse.ensures.value.0 in search rules

pub returns-in-Err : goal.returns-in-Err
returns-in-Err c = λ n small is.
    let read = parse-decimal 64 n _ _ small small is c.parse.ensures.value.0 in search rules
