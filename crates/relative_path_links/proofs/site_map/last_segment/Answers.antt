-- After a slash at the end of the path comes the empty segment.
use Rattle.std.proofs.Common.{◌≡◌, true, rules}
use Rattle.relative_path.specs.RelativePath.{path_text, path_components}
use Rattle.relative_path_links.specs.UrlPath.{ends_in_slash}
use Rattle.relative_path_links.proofs.SiteMapLemmas.{last_name-slash}
use Rattle.relative_path_links.proofs.site_map.last_segment.Goals as goal

pub returns-then-ends_with : goal.returns-then-ends_with
returns-then-ends_with c =
    let is : ends_in_slash (path_text c.args.page) ≡ true = search rules in
    last_name-slash (path_components c.args.page) (ends_in_slash (path_text c.args.page)) is
