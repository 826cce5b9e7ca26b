use Rattle.std.proofs.Common.{arith, sym}
use Rattle.relmove_stages.specs.Stages.{rename_texts, takes}
use Rattle.relmove_stages.proofs.BackLemmas.{reversed_element, undone_element}
use Rattle.relmove_stages.proofs.stages.unstage_at.Goals as goal

pub returns-clause-listed : goal.returns-clause-listed
returns-clause-listed c =
    sym (undone_element takes c.args.renames.now c.args.number c.index-renames-renames.result
    (omega (arith, c.if-number-renames.false)) c.index-renames-renames.is)

pub returns-clause-spelled : goal.returns-clause-spelled
returns-clause-spelled c =
    sym (reversed_element rename_texts c.args.renames.now c.args.number c.index-renames-renames.result
    (omega (arith, c.if-number-renames.false)) c.index-renames-renames.is)
