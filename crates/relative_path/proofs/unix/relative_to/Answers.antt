use Rattle.std.proofs.Common.{◌∙◌, ◌++◌, sym, ap, subst, replicate}
use Rattle.relative_path.specs.Steps.{up, components, spell}
use Rattle.relative_path.specs.Walk.{IsSame}
use Rattle.relative_path.specs.UnixComponents.{unix_left}
use Rattle.relative_path.specs.Unix.{unix_components}
use Rattle.relative_path.proofs.UnixWaysLemmas.{way_to-from, IsSame-way_to}
use Rattle.relative_path.proofs.unix.relative_to.Goals as goal

pub returns-clause-ok : goal.returns-clause-ok
returns-clause-ok c =
    let depth = rw c.in_ok-climb.ensures.ok_part at c.depth.ensures in
    let way = way_to-from c.args.path.now c.args.root.now _ _ depth.0 c.without_shared.ensures.path
    c.without_shared.ensures.root depth.1 in
    let count = ap (λ n. spell (replicate n up ++ unix_left c.without_shared.result.0)) depth.2 in
    (_, way, c.into-2.ensures.0 ∙ c.in_ok-way.ensures ∙ count)

pub returns-clause-leads : goal.returns-clause-leads
returns-clause-leads c =
    let found = returns-clause-ok c in
    subst (λ text. IsSame
    (unix_components c.args.root.now ++ components text) (unix_components c.args.path.now)) (sym found.2)
    (IsSame-way_to c.args.path.now c.args.root.now found.0 found.1)
