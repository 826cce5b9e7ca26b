-- Each page of the map has a file name.
use Rattle.std.proofs.Common.{◌<◌, length, map}
use Rattle.relative_path_links.specs.UrlPath.{page_of}
use Rattle.relative_path_links.proofs.SiteMapLemmas.{named-at}
use Rattle.relative_path_links.proofs.site_map.SiteMap.page.Goals as goal

pub returns-clause-named : goal.returns-clause-named
returns-clause-named c =
    let within : c.args.k < length (map page_of c.self.inside.pages.now) = rw (← c.self.view_is) at c.requires in
    named-at c.self.inside.pages.now _ c.args.k c.self.invariant.1 within
