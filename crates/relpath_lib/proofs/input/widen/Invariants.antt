-- The old bytes stay first, and the length is at most the wanted length.
use Rattle.std.proofs.Common.{◌≡◌, ◌-◌, ◌≤◌, take, vec_len, max}
use Rattle.std.specs.Vec.{vec_capacity}
use Rattle.relpath_lib.proofs.input.widen.Given as goal

abbrev pub invariant-loop-input : goal.invariant-loop-input
invariant-loop-input l = record {
  kept : take (vec_len l.fn.input) l.input.items ≡ l.fn.input.items;
  grown : vec_len l.fn.input ≤ vec_len l.input;
  within : vec_len l.input ≤ max (vec_len l.fn.input) l.len;
  capacity : vec_capacity l.fn.input ≤ vec_capacity l.input;
}

abbrev pub decreases-loop-input : goal.decreases-loop-input
decreases-loop-input l = l.len - vec_len l.input
