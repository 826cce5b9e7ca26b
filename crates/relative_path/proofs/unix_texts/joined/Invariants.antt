use Rattle.std.proofs.Common.{◌≡◌, ◌≤◌, ◌+◌, length, string_bytes}
use Rattle.std.specs.String.{string_capacity}
use Rattle.relative_path.specs.Components.{components_left}
use Rattle.relative_path.specs.Steps.{components, slashed_len}
use Rattle.relative_path.specs.Unix.{onto}
use Rattle.relative_path.proofs.unix_texts.joined.Given as goal

abbrev pub invariant-loop-component : goal.invariant-loop-component
invariant-loop-component l =
    let left = components_left l.component-iterator in
    (onto (string_bytes l.text) left ≡ onto l.fn.base (components l.fn.path)) ×
    (length (string_bytes l.text) + slashed_len left ≤ string_capacity l.text)
