use Rattle.std.proofs.Common.{◌≡◌, ◌≤◌, string_bytes}
use Rattle.std.specs.String.{string_capacity}
use Rattle.relative_path.specs.Unix.{onto}
use Rattle.relative_path.specs.UnixComponents.{unix_left}
use Rattle.relative_path.proofs.unix_texts.push_components.Given as goal

abbrev pub invariant-loop-component : goal.invariant-loop-component
invariant-loop-component l =
    (onto (string_bytes l.text) (unix_left l.component-iterator)
    ≡ onto (string_bytes l.fn.text) (unix_left l.fn.components))
    × (string_capacity l.fn.text ≤ string_capacity l.text)
