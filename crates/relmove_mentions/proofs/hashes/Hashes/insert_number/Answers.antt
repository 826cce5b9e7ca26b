-- The word of the number has its bit then, and the words keep theirs.
use Rattle.std.proofs.Common.{bit_and}
use Rattle.relmove_mentions.proofs.HashesLemmas.{has_bit_at-stays, has_bit_at-with_bit}
use Rattle.relmove_mentions.proofs.hashes.Hashes.insert_number.Goals as goal

pub returns-in-Some-clause-has : goal.returns-in-Some-clause-has
returns-in-Some-clause-has c =
    has_bit_at-with_bit c.args.self.now.words.items c.in-Some.word.now (bit_and c.args.number c.args.self.now.mask)
    c.in-Some.ensures.item.3.0

pub returns-in-Some-clause-keeps : goal.returns-in-Some-clause-keeps
returns-in-Some-clause-keeps c = λ other has.
    let (within, is) = c.in-Some.ensures.item.3 in
    has_bit_at-stays c.args.self.now.words.items c.in-Some.word.now (bit_and c.args.number c.args.self.now.mask)
    (bit_and other c.args.self.now.mask) within (is 0) has
