use Rattle.std.proofs.Common.{subst}
use Rattle.relative_path.specs.Normalizing.{IsNormalTextOf}
use Rattle.relative_path.specs.Steps.{components}
use Rattle.relative_path_c.specs.Memory.{Needs}
use Rattle.relative_path_c.proofs.MemoryLemmas.{Needs-written}
use Rattle.relative_path_c.proofs.texts.relative_path_normalize.Goals as goal

-- src/texts.rt:61:1
pub returns-clause-needs : goal.returns-clause-needs
returns-clause-needs c =
    let status = c.written.result.status in
    let len = c.written.result.len in
    subst (λ text. Needs status len c.args.out.now (IsNormalTextOf (components text)))
    c.in-Some.ensures.1
    (Needs-written c.args.out.now c.normalize.result status len
    c.normalize.ensures.needed c.written.ensures.ok c.written.ensures.err)
