use Rattle.std.proofs.Common.{ap₂, ◌∙◌, append-nil, lit<, rules}
use Rattle.relmove_journal.proofs.ReadingLemmas.{escaped-lacks}
use Rattle.relmove_journal.proofs.journal.rename_of.Goals as goal

pub returns-in_err-from : goal.returns-in_err-from
returns-in_err-from c = λ rename fits is. absurd (c.in_err-from.ensures _ _ (escaped-lacks 9 (lit< tt) (lit< tt) rename.0) is)

pub returns-in_err-path_of : goal.returns-in_err-path_of
returns-in_err-path_of c = λ rename fits is.
    let parts = c.in_ok-from.ensures _ _ (escaped-lacks 9 (lit< tt) (lit< tt) rename.0) is in
    let fault = c.in_err-path_of.ensures rename.0 fits.0 parts.0 in search rules

pub returns-in_err-path_of-2 : goal.returns-in_err-path_of-2
returns-in_err-path_of-2 c = λ rename fits is.
    let parts = c.in_ok-from.ensures _ _ (escaped-lacks 9 (lit< tt) (lit< tt) rename.0) is in
    let fault = c.in_err-path_of-2.ensures rename.1 fits.1 (parts.1 ∙ append-nil _) in search rules

pub returns : goal.returns
returns c = λ rename fits is.
    let parts = c.in_ok-from.ensures _ _ (escaped-lacks 9 (lit< tt) (lit< tt) rename.0) is in
    let from = c.in_ok-path_of.ensures rename.0 fits.0 parts.0 in
    let to = c.in_ok-path_of-2.ensures rename.1 fits.1 (parts.1 ∙ append-nil _) in
    ap₂ (λ p q. (p, q)) from to
