-- The mask of the block has a bit for each of its bytes.
use Rattle.std.proofs.Common.{◌∙◌, ◌+◌, ap, sym, w64, arith}
use Rattle.std.specs.Int.{trailing_zeros}
use Rattle.byte_classes.proofs.FirstLemmas.{before-block, before-bit}
use Rattle.byte_classes.proofs.len_before_in_block.Goals as goal

pub returns-then-found-eq0 : goal.returns-then-found-eq0
returns-then-found-eq0 g c =
    before-block (g.C.ByteClass.has c.args.class.now) c.args.text.now c.args.start 16 c.requires.block c.requires.before
    (sym c.those_in-found.ensures ∙ c.if-found-eq0.true)

pub returns-else-found-eq0 : goal.returns-else-found-eq0
returns-else-found-eq0 g c =
    ap (λ n. c.args.start + trailing_zeros w64 n) c.those_in-found.ensures
    ∙ before-bit (g.C.ByteClass.has c.args.class.now) c.args.text.now c.args.start 16 c.requires.block c.requires.before (omega arith)
    (λ none. c.if-found-eq0.false (c.those_in-found.ensures ∙ none))
