use Rattle.std.proofs.Common.{Ok, ap₂, ◌∙◌, append-nil, lit<}
use Rattle.std.specs.Fmt.{decimal}
use Rattle.relmove_journal.proofs.FieldLemmas.{Err-no_value, Ok-value, escaped-decimal, escaped-encode_lower}
use Rattle.relmove_journal.proofs.ReadingLemmas.{escaped-lacks}
use Rattle.relmove_journal.proofs.journal.text_digest_of.Goals as goal

pub returns-in_err-length : goal.returns-in_err-length
returns-in_err-length c = λ digest fits is.
    absurd (c.in_err-length.ensures _ _ (escaped-lacks 9 (lit< tt) (lit< tt) (decimal digest.length)) is)

pub returns-in_err-number_of : goal.returns-in_err-number_of
returns-in_err-number_of c = λ digest fits is.
    let parts = c.in_ok-length.ensures _ _ (escaped-lacks 9 (lit< tt) (lit< tt) (decimal digest.length)) is in
    absurd (Err-no_value _ _ (c.in_err-number_of.ensures digest.length fits.small
    (parts.0 ∙ escaped-decimal digest.length fits.small)))

pub returns-in_err-sha256_of : goal.returns-in_err-sha256_of
returns-in_err-sha256_of c = λ digest fits is.
    let parts = c.in_ok-length.ensures _ _ (escaped-lacks 9 (lit< tt) (lit< tt) (decimal digest.length)) is in
    absurd (Err-no_value _ _ (c.in_err-sha256_of.ensures digest.sha256 fits.long fits.bytes
    (parts.1 ∙ append-nil _ ∙ escaped-encode_lower digest.sha256 fits.long fits.bytes)))

pub returns : goal.returns
returns c = λ digest fits is.
    let parts = c.in_ok-length.ensures _ _ (escaped-lacks 9 (lit< tt) (lit< tt) (decimal digest.length)) is in
    let size = c.in_ok-number_of.ensures digest.length fits.small (parts.0 ∙ escaped-decimal digest.length fits.small) in
    let bytes = c.in_ok-sha256_of.ensures digest.sha256 fits.long fits.bytes
    (parts.1 ∙ append-nil _ ∙ escaped-encode_lower digest.sha256 fits.long fits.bytes) in
    ap₂ (λ l s. Ok (record { length = l; sha256 = s })) (Ok-value _ _ size) (Ok-value _ _ bytes)
