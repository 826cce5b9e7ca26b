-- Sets of hashes that can have more than was inserted.
use Rattle.std.specs.Prelude.{ℕ, Bool, true, ◌==◌, ◌&&◌, ◌*◌, ◌/◌, ◌%◌, ◌^◌, List, get_or, map}
use Rattle.std.specs.Int.{bit_at}
use Rattle.std.specs.Int.Bits.{bit_and}
use Rattle.relmove_mentions.specs.declared.hashes.Hashes.{Hashes}

-- a word has the bit
abbrev pub has_bit : ℕ → ℕ → Bool
has_bit bit word = bit_at word bit == 1

-- words of 64 bits have the bit at an offset
abbrev pub has_bit_at : List ℕ → ℕ → Bool
has_bit_at words at = get_or (map (has_bit (at % 64)) words) (at / 64) true

-- the set has the bit of a number
abbrev pub has_number : Hashes → ℕ → Bool
has_number set number = has_bit_at set.words.items (bit_and number set.mask)

-- a number that is made of all of a hash
abbrev pub other_hash : ℕ → ℕ
other_hash hash = hash * 11400714819323198485 % 2 ^ 64 / 4294967296

-- the set has the hash: the bits of both its numbers
abbrev pub may_have : Hashes → ℕ → Bool
may_have set hash = has_number set hash && has_number set (other_hash hash)
