-- The pages so far are rewritten.
use Rattle.std.proofs.Common.{drop}
use Rattle.relative_path_links.proofs.SiteLemmas.{SiteSoFar}
use Rattle.relative_path_links.proofs.site.rewrite_site.Given as goal

abbrev pub invariant-loop-page : goal.invariant-loop-page
invariant-loop-page g l =
    SiteSoFar (g.F.Finder.finds l.finder) l.root l.moves l.links l.pages (drop l.page-index l.pages) l.moved.items
