use Rattle.std.proofs.Common.{◌≡◌, ◌≤◌, ◌+◌, ℕ, List, [], length}
use Rattle.relative_path.specs.Walk.{walk}
use Rattle.relative_path.specs.UnixComponents.{unix_left}
use Rattle.relative_path.proofs.unix_components.depth.Given as goal

abbrev pub invariant-loop-component : goal.invariant-loop-component
invariant-loop-component l =
    let left = unix_left l.component-iterator in
    (place : List (List ℕ)) × (l.depth ≡ length place) × (walk [] (unix_left l.fn.left) ≡ walk place left)
    × (l.depth + length left ≤ length l.fn.left.left.text.now + 1)
