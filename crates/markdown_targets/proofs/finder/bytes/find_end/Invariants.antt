-- No word begins before the offset.
use Rattle.std.proofs.Common.{◌≡◌, ◌-◌, length, drop}
use Rattle.markdown_targets.specs.Offsets.{Skips}
use Rattle.markdown_targets.specs.Words.{word_end}
use Rattle.markdown_targets.proofs.finder.bytes.find_end.Given as goal

abbrev pub invariant-loop-k : goal.invariant-loop-k
invariant-loop-k l = record {
  within : Skips l.text l.from l.k;
  none_before : word_end l.word l.from (drop l.from l.text) ≡ word_end l.word l.k (drop l.k l.text);
}

abbrev pub decreases-loop-k : goal.decreases-loop-k
decreases-loop-k l = length l.text - l.k
