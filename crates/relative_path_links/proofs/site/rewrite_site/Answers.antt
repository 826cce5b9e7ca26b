-- Each turn rewrites the next page. After the last one all are rewritten, and so keep their links.
use Rattle.std.proofs.Common.{drop, arith}
use Rattle.std.proofs.lemmas.List.{drop_all}
use Rattle.relative_path_links.proofs.SiteLemmas.{SiteSoFar-end, SiteSoFar-next, KeepTheirLinks-rewritten}
use Rattle.relative_path_links.proofs.site.rewrite_site.Goals as goal

pub loop-page-preserved : goal.loop-page-preserved
loop-page-preserved g c =
    rw c.in_ok-push.ensures.items
    (SiteSoFar-next (g.F.Finder.finds c.args.finder.now) c.args.root.now c.args.moves.now c.args.links.now c.args.pages.now
    c.page-item.result c.loop-page.page-index c.loop-page.moved.items c.in_ok-moved_page.field-0 c.loop-page-test.true c.page-item.is
    c.in_ok-moved_page.ensures c.loop-page.invariant)

pub returns-clause-rewritten : goal.returns-clause-rewritten
returns-clause-rewritten g c =
    SiteSoFar-end (g.F.Finder.finds c.args.finder.now) c.args.root.now c.args.moves.now c.args.links.now c.args.pages.now
    (drop c.loop-page.page-index c.args.pages.now) c.loop-page.moved.items
    (drop_all c.loop-page.page-index c.args.pages.now (grind (arith, c.loop-page-test.false))) c.loop-page.invariant

pub returns-clause-links : goal.returns-clause-links
returns-clause-links g c =
    KeepTheirLinks-rewritten (g.F.Finder.finds c.args.finder.now) c.args.root.now c.args.moves.now c.args.links.now
    c.args.pages.now c.loop-page.moved.items
    (SiteSoFar-end (g.F.Finder.finds c.args.finder.now) c.args.root.now c.args.moves.now c.args.links.now c.args.pages.now
    (drop c.loop-page.page-index c.args.pages.now) c.loop-page.moved.items
    (drop_all c.loop-page.page-index c.args.pages.now (grind (arith, c.loop-page-test.false))) c.loop-page.invariant)
