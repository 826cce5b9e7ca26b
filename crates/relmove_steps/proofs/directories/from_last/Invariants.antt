-- What was taken, and what is left, turned round.
use Rattle.std.proofs.Common.{◌≡◌, ◌++◌, length}
use mathlib.Core.List.{reverse}
use Rattle.relmove_steps.proofs.directories.from_last.Given as goal

abbrev pub invariant-loop-text : goal.invariant-loop-text
invariant-loop-text l = l.texts.items ++ reverse l.set.keys ≡ reverse l.initial.set.keys

abbrev pub decreases-loop-text : goal.decreases-loop-text
decreases-loop-text l = length l.set.keys
