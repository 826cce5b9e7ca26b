use Rattle.std.proofs.Common.{◌∙◌, arith, sym}
use Rattle.relative_path.proofs.MaskedLemmas.{KnowsSlashes-block}
use Rattle.relative_path.proofs.SlashesLemmas.{first_after}
use Rattle.relative_path.proofs.masked.mask_of.Goals as goal

pub returns-then-bytes-ge-MASK-clause-known : goal.returns-then-bytes-ge-MASK-clause-known
returns-then-bytes-ge-MASK-clause-known c =
    rw c.slashes_in.ensures (KnowsSlashes-block c.args.bytes.now 64 c.if-bytes-ge-MASK.true)

pub returns-then-bytes-ge-MASK-clause-far : goal.returns-then-bytes-ge-MASK-clause-far
returns-then-bytes-ge-MASK-clause-far c none =
    let many = c.if-bytes-ge-MASK.true in
    (many, first_after c.args.bytes.now 0 64 many (omega arith) (sym c.slashes_in.ensures ∙ none))
