-- A push of a character that fails appends nothing.
use Rattle.std.proofs.Common.{string_bytes}
use Rattle.target_paths.specs.Writing.{written_character}
use Rattle.target_paths.proofs.PartLemmas.{on_err, partly-none}
use Rattle.target_paths.proofs.writing.push_character.Goals as goal

pub returns-in_err-push-clause-err : goal.returns-in_err-push-clause-err
returns-in_err-push-clause-err c =
    on_err c.from_residual.result
    (partly-none (string_bytes c.args.target.now) (written_character c.args.position c.args.character)
    (string_bytes c.push.new.self) c.in_err-push.ensures.bytes)
