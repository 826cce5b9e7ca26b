use Rattle.std.proofs.Common.{arith, ap, length}
use Rattle.relative_path.specs.UnixComponents.{unix_left}
use Rattle.relative_path.specs.Steps.{slashed_len}
use Rattle.relative_path.proofs.SpellingLemmas.{length-spell-ups}
use Rattle.relative_path.proofs.unix_texts.climbed_len.Goals as goal

pub returns-in_err-len : goal.returns-in_err-len
returns-in_err-len c =
    let whole = length-spell-ups c.args.climb (unix_left c.args.components) in
    rw c.from_residual.ensures (omega (arith, whole, c.in_err-len.ensures))

pub returns-in_err-len-2 : goal.returns-in_err-len-2
returns-in_err-len-2 c =
    let whole = length-spell-ups c.args.climb (unix_left c.args.components) in
    let first = ap slashed_len c.in-Some.ensures.steps in
    rw c.from_residual-in_err-len-2.ensures
    (omega (arith, whole, first, c.loop-component.invariant, c.in_err-len-2.ensures, ap length c.as_str.ensures))

pub returns : goal.returns
returns c =
    let whole = length-spell-ups c.args.climb (unix_left c.args.components) in
    let none = ap slashed_len c.in-None.ensures.steps.0 in
    omega (arith, whole, none, c.loop-component.invariant, c.saturating_sub.ensures)
