-- The names of the next page are plain, or it is the first whose names aren't.
use Rattle.std.proofs.lemmas.Bool.{both_ways}
use Rattle.relative_path_links.proofs.SiteMapLemmas.{plain-next, IsFirstOtherPage-here}
use Rattle.relative_path_links.proofs.site_map.first_not_plain.Goals as goal

pub loop-k-preserved : goal.loop-k-preserved
loop-k-preserved c =
    plain-next c.args.pages.now _ c.loop-k.k c.loop-k-test.true c.loop-k.invariant
    (c.has_plain_names.ensures.plain.0 c.if-not-has_plain_names.false)

pub returns-then-not-has_plain_names : goal.returns-then-not-has_plain_names
returns-then-not-has_plain_names c =
    IsFirstOtherPage-here c.args.pages.now _ c.loop-k.k c.loop-k-test.true c.loop-k.invariant
    (λ plain. both_ways c.has_plain_names.result c.if-not-has_plain_names.true (c.has_plain_names.ensures.plain.1 plain))
