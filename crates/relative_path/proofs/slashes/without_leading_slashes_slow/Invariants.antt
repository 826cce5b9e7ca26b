use Rattle.std.proofs.Common.{◌≡◌, ◌-◌, length, drop}
use denote.Text.{Utf8}
use denote.Shadow.{shadow}
use Rattle.relative_path.specs.Steps.{components}
use Rattle.relative_path.proofs.slashes.without_leading_slashes_slow.Given as goal

abbrev pub invariant-loop-shorter : goal.invariant-loop-shorter
invariant-loop-shorter l = record {
  utf8 : shadow (Utf8 l.rest);
  suffix : l.rest ≡ drop (length l.text - length l.rest) l.text;
  same : components l.rest ≡ components l.text;
}

abbrev pub decreases-loop-shorter : goal.decreases-loop-shorter
decreases-loop-shorter l = length l.rest
