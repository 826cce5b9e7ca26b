-- The last digits are added, and the others are left.
use Rattle.std.proofs.Common.{◌≡◌, ◌≤◌, ◌+◌, ◌++◌, drop, length, map, string_bytes}
use mathlib.Core.List.{reverse}
use Rattle.relmove_steps.proofs.number.push_digits.Given as goal

abbrev pub invariant-loop-left : goal.invariant-loop-left
invariant-loop-left l = record {
  within : l.left ≤ length l.digits;
  added : string_bytes l.text ≡ string_bytes l.fn.text ++ map (λ digit. 48 + digit) (reverse (drop l.left l.digits));
}

abbrev pub decreases-loop-left : goal.decreases-loop-left
decreases-loop-left l = l.left
