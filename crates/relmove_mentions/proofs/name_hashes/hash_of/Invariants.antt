-- The hash is that of the bytes so far.
use Rattle.std.proofs.Common.{◌≡◌, take}
use Rattle.relmove_mentions.specs.NameHashes.{hash_of}
use Rattle.relmove_mentions.proofs.name_hashes.hash_of.Given as goal

abbrev pub invariant-loop-byte : goal.invariant-loop-byte
invariant-loop-byte l = l.hash ≡ hash_of (take l.byte-index l.text)
