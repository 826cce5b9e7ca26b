-- The ending is that of the bytes so far.
use Rattle.std.proofs.Common.{◌≡◌, take}
use Rattle.relmove_mentions.specs.Endings.{ending_of}
use Rattle.relmove_mentions.proofs.endings.ending_of.Given as goal

abbrev pub invariant-loop-byte : goal.invariant-loop-byte
invariant-loop-byte l = l.ending ≡ ending_of (take l.byte-index l.text)
