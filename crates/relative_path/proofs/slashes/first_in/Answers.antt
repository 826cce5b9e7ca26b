use Rattle.std.proofs.Common.{◌∙◌, ◌+◌, ap, sym, w64}
use Rattle.std.specs.Int.{trailing_zeros}
use Rattle.relative_path.proofs.SlashesLemmas.{first_in, first_after}
use Rattle.relative_path.proofs.slashes.first_in.Goals as goal

pub returns-then-slashes-eq0 : goal.returns-then-slashes-eq0
returns-then-slashes-eq0 g c =
    first_after c.args.bytes.now c.args.start _ c.requires.block c.requires.after
    (sym c.slashes_in-slashes.ensures ∙ c.if-slashes-eq0.true)

pub returns-else-slashes-eq0 : goal.returns-else-slashes-eq0
returns-else-slashes-eq0 g c =
    ap (λ n. c.args.start + trailing_zeros w64 n) c.slashes_in-slashes.ensures
    ∙ first_in c.args.bytes.now c.args.start _ c.requires.block c.requires.lanes c.requires.after
    (λ none. c.if-slashes-eq0.false (c.slashes_in-slashes.ensures ∙ none))
