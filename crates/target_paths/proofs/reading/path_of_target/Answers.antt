use Rattle.std.proofs.Common.{List, ℕ, subst}
use Rattle.target_paths.specs.Reading.{meaning, Says}
use Rattle.target_paths.specs.Shown.{HasTail}
use Rattle.target_paths.proofs.TailLemmas.{says-tail, says-relative}
use Rattle.target_paths.proofs.reading.path_of_target.Goals as goal

pub returns-in-Ok-clause-tail : goal.returns-in-Ok-clause-tail
returns-in-Ok-clause-tail c =
    let syntax = c.args.syntax in
    let says : List ℕ → Type 0 = λ target. Says (meaning syntax target) c.in-Ok.reading in
    says-tail syntax c.args.target.now c.in-Ok.reading
    (subst (HasTail syntax) c.as_bytes.ensures.value c.in-Ok.ensures.tail)
    (subst says c.as_bytes.ensures.value c.in-Ok.ensures.ok)

pub returns-in-Ok-clause-relative : goal.returns-in-Ok-clause-relative
returns-in-Ok-clause-relative c =
    let says : List ℕ → Type 0 = λ target. Says (meaning c.args.syntax target) c.in-Ok.reading in
    says-relative c.args.syntax c.args.target.now c.in-Ok.reading
    (subst says c.as_bytes.ensures.value c.in-Ok.ensures.ok)
