-- A command with another number of arguments than it takes has an answer in words.
use Rattle.std.proofs.Common.{sym, ◌∙◌}
use Rattle.relpath_lib.proofs.CommandLemmas.{Adds-miscounted}
use Rattle.relpath_lib.proofs.command.answer_command.Goals as goal

pub returns-then-arguments-arity : goal.returns-then-arguments-arity
returns-then-arguments-arity c =
    Adds-miscounted c.args.name.now c.named.result c.in-Some.command c.args.arguments.now
    c.add_words-then-arguments-arity.result _ _ c.named.ensures c.in-Some.is
    (λ same. c.if-arguments-arity.true (same ∙ sym c.arity.ensures)) c.add_words-then-arguments-arity.ensures
