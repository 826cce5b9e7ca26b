-- After the last target there are no more.
use Rattle.std.proofs.Common.{map}
use Rattle.markdown_targets.proofs.SpansLemmas.{AreInOrder-whole}
use Rattle.markdown_targets.proofs.targets_in_order.Goals as goal

pub returns : goal.returns
returns c =
    AreInOrder-whole c.args.page.now (map (λ target. target.span) c.loop-target.targets.items) c.loop-target.at
    c.loop-target.invariant
