use Rattle.std.proofs.Common.{◌≡◌, length, take}
use denote.Text.{Utf8}
use denote.Shadow.{shadow}
use Rattle.relative_path.specs.Steps.{components}
use Rattle.relative_path.proofs.slashes.without_trailing_slashes_slow.Given as goal

abbrev pub invariant-loop-shorter : goal.invariant-loop-shorter
invariant-loop-shorter l = record {
  utf8 : shadow (Utf8 l.front);
  prefix : l.front ≡ take (length l.front) l.text;
  same : components l.front ≡ components l.text;
}

abbrev pub decreases-loop-shorter : goal.decreases-loop-shorter
decreases-loop-shorter l = length l.front
