-- The index has the pages so far.
use Rattle.std.proofs.Common.{map, take}
use Rattle.relative_path_places.specs.PlaceIndex.{Indexes}
use Rattle.relative_path_links.specs.SiteMap.{paths_of}
use Rattle.relative_path_links.specs.UrlPath.{page_of}
use Rattle.relative_path_links.proofs.site_map.SiteMap.new.Given as goal

abbrev pub invariant-loop-k : goal.invariant-loop-k
invariant-loop-k l = Indexes (take l.k (paths_of (map page_of l.pages))) l.by_place
