-- Each page so far has plain names.
use Rattle.std.proofs.Common.{ℕ, ◌<◌, map}
use Rattle.relative_path_links.specs.SiteMap.{page_at, IsPlainPage}
use Rattle.relative_path_links.specs.UrlPath.{page_of}
use Rattle.relative_path_links.proofs.site_map.first_not_plain.Given as goal

abbrev pub invariant-loop-k : goal.invariant-loop-k
invariant-loop-k l = (j : ℕ) → j < l.k → IsPlainPage (page_at (map page_of l.pages) j)
