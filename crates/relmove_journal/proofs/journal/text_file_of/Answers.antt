use Rattle.std.proofs.Common.{ap₂, lit<, rules}
use Rattle.relmove_journal.proofs.FieldLemmas.{Err-no_value, Ok-value}
use Rattle.relmove_journal.proofs.ReadingLemmas.{escaped-lacks}
use Rattle.relmove_journal.proofs.journal.text_file_of.Goals as goal

pub returns-in_err-path : goal.returns-in_err-path
returns-in_err-path c = λ text fits is. absurd (c.in_err-path.ensures _ _ (escaped-lacks 9 (lit< tt) (lit< tt) text.0) is)

pub returns-in_err-path_of : goal.returns-in_err-path_of
returns-in_err-path_of c = λ text fits is.
    let parts = c.in_ok-path.ensures _ _ (escaped-lacks 9 (lit< tt) (lit< tt) text.0) is in
    let fault = c.in_err-path_of.ensures text.0 fits.0 parts.0 in search rules

pub returns-in_err-text_digest_of : goal.returns-in_err-text_digest_of
returns-in_err-text_digest_of c = λ text fits is.
    let parts = c.in_ok-path.ensures _ _ (escaped-lacks 9 (lit< tt) (lit< tt) text.0) is in
    absurd (Err-no_value _ _ (c.in_err-text_digest_of.ensures text.1 fits.1 parts.1))

pub returns : goal.returns
returns c = λ text fits is.
    let parts = c.in_ok-path.ensures _ _ (escaped-lacks 9 (lit< tt) (lit< tt) text.0) is in
    let path = c.in_ok-path_of.ensures text.0 fits.0 parts.0 in
    let digest = Ok-value _ _ (c.in_ok-text_digest_of.ensures text.1 fits.1 parts.1) in
    ap₂ (λ p d. (p, d)) path digest
