use Rattle.std.proofs.Common.{ap, ◌∙◌, rules}
use Rattle.hex.proofs.HexLemmas.{decode_sized-encode_lower}
use Rattle.hex.specs.Hex.{decode_sized}
use Rattle.relmove_journal.proofs.journal.sha256_of.Goals as goal

pub returns-in-Ok : goal.returns-in-Ok
returns-in-Ok c = λ bytes long are is.
    let read = c.from_hex.ensures ∙ ap (λ text. decode_sized text 32) is ∙ decode_sized-encode_lower bytes 32 long are in
    search rules

pub returns-in-Err : goal.returns-in-Err
returns-in-Err c = λ bytes long are is.
    let read = c.from_hex.ensures ∙ ap (λ text. decode_sized text 32) is ∙ decode_sized-encode_lower bytes 32 long are in
    search rules
