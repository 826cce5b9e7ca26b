use Rattle.std.proofs.Common.{◌≡◌, ◌≤◌, length}
use Rattle.character_names.specs.Names.{longest_name, longest_within}
use Rattle.character_names.proofs.names.longest_name.Given as goal

abbrev pub invariant-loop-len : goal.invariant-loop-len
invariant-loop-len l = record {
  within : l.len ≤ length l.text;
  left : longest_within l.len l.text ≡ longest_name l.text;
}

abbrev pub decreases-loop-len : goal.decreases-loop-len
decreases-loop-len l = l.len
