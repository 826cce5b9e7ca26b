use Rattle.std.proofs.Common.{◌≡◌, ◌+◌, ◌*◌}
use Rattle.relative_path.specs.UnixComponents.{unix_left}
use Rattle.relative_path.specs.Steps.{slashed_len}
use Rattle.relative_path.proofs.unix_texts.climbed_len.Given as goal

abbrev pub invariant-loop-component : goal.invariant-loop-component
invariant-loop-component l =
    l.len + slashed_len (unix_left l.component-iterator) ≡ 3 * l.climb + slashed_len (unix_left l.fn.components)
