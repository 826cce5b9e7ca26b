-- So many spans end at or before the offset.
use Rattle.std.proofs.Common.{◌-◌, length}
use Rattle.relmove_mentions.specs.Spans.{ArePassed}
use Rattle.relmove_mentions.proofs.mentions.count_passed.Given as goal

abbrev pub invariant-loop-count : goal.invariant-loop-count
invariant-loop-count l = ArePassed l.spans l.count l.at

abbrev pub decreases-loop-count : goal.decreases-loop-count
decreases-loop-count l = length l.spans - l.count
