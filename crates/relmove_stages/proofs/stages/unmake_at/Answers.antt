use Rattle.std.proofs.Common.{Some, [], ◌∷◌, ap, arith, sym, ◌∙◌}
use Rattle.relmove_stages.specs.StageActions.{Clears}
use Rattle.relmove_stages.specs.Stages.{directory_texts, makes}
use Rattle.relmove_stages.proofs.BackLemmas.{reversed_element, undone_element}
use Rattle.relmove_trees.specs.FileTrees.{names_of}
use Rattle.relmove_stages.proofs.stages.unmake_at.Goals as goal

pub returns-clause-listed : goal.returns-clause-listed
returns-clause-listed c =
    ap (λ path. Some (Clears (names_of path))) c.as_str.ensures.value
    ∙ sym (undone_element makes c.args.paths.now c.args.number c.index-paths-paths.result
    (omega (arith, c.if-number-paths.false)) c.index-paths-paths.is)

pub returns-clause-spelled : goal.returns-clause-spelled
returns-clause-spelled c =
    ap (λ path. Some (path ∷ [])) c.as_str.ensures.value
    ∙ sym (reversed_element directory_texts c.args.paths.now c.args.number c.index-paths-paths.result
    (omega (arith, c.if-number-paths.false)) c.index-paths-paths.is)
