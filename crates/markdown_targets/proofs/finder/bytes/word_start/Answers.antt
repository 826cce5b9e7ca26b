-- A word begins with its first byte.
use Rattle.markdown_targets.proofs.OffsetsLemmas.{word_end-first}
use Rattle.markdown_targets.proofs.finder.bytes.word_start.Goals as goal

pub returns-in-Some-clause-none_before : goal.returns-in-Some-clause-none_before
returns-in-Some-clause-none_before c =
    let first = c.in-Some.ensures.item in
    word_end-first c.args.word.now c.args.text.now c.in-Some.first.now c.args.from c.byte_at.result c.in-Some.first.now
    first.3.0 first.1 c.byte_at.ensures.first
