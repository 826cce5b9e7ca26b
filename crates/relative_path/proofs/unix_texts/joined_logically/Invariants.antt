use Rattle.std.proofs.Common.{◌≤◌, ◌+◌, ℕ, List, length, string_bytes}
use Rattle.std.specs.String.{string_capacity}
use Rattle.relative_path.specs.Components.{components_left}
use Rattle.relative_path.specs.Steps.{components, slashed_len}
use Rattle.relative_path.specs.Unix.{IsLogical}
use Rattle.relative_path.proofs.unix_texts.joined_logically.Given as goal

abbrev pub invariant-loop-component : goal.invariant-loop-component
invariant-loop-component l =
    let left = components_left l.component-iterator in
    ((end : List ℕ) → IsLogical (string_bytes l.text) left end → IsLogical l.fn.base (components l.fn.path) end)
    × (length (string_bytes l.text) + slashed_len left ≤ string_capacity l.text)
