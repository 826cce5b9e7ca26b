-- The paths of the pages, and of those that change.
use Rattle.std.specs.Prelude.{List, [], ◌∷◌, map, is_some, if◌then◌else◌}
use Rattle.relative_path.specs.Steps.{Step, components}
use Rattle.relative_path_links.specs.declared.site.MovedSitePage.{MovedSitePage}
use Rattle.relative_path_links.specs.declared.site.SitePage.{SitePage}

-- the components of the paths of the pages
abbrev pub page_paths : List SitePage → List (List Step)
page_paths = map (λ page. components page.path.now)

-- the components of the paths of the pages that change: those whose new page has a text
abbrev pub changed_paths : List SitePage → List MovedSitePage → List (List Step)
changed_paths [] news = []
changed_paths (page ∷ pages) [] = []
changed_paths (page ∷ pages) (new ∷ news) =
    if is_some new.text then components page.path.now ∷ changed_paths pages news else changed_paths pages news
