-- Each page so far has a file name.
use Rattle.std.proofs.Common.{◌≢◌, ℕ, ◌<◌, map, None}
use Rattle.relative_path.specs.Naming.{last_name}
use Rattle.relative_path_links.specs.SiteMap.{page_at}
use Rattle.relative_path_links.specs.UrlPath.{page_of}
use Rattle.relative_path_links.proofs.site_map.first_nameless.Given as goal

abbrev pub invariant-loop-k : goal.invariant-loop-k
invariant-loop-k l = (j : ℕ) → j < l.k → last_name (page_at (map page_of l.pages) j).path ≢ None
