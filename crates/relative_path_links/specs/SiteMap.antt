-- The pages of a site, and the references from one to another.
use Rattle.std.specs.Prelude.{◌≡◌, ◌≢◌, ◌<◌, ◌⊎◌, ℕ, List, [], ◌∷◌, ◌++◌, map, length, false, codes, decimal, None, Option, MatchOption, slice_index_or}
use Rattle.relative_path.specs.Steps.{Step, up, name, spell}
use Rattle.relative_path.specs.Walk.{IsSame}
use Rattle.relative_path.specs.Naming.{last_name}
use Rattle.relative_path.specs.Relating.{Leads, IsReachable}
use Rattle.target_paths.specs.Writing.{target_of}
use Rattle.relative_path_links.specs.UrlPath.{Page, url_steps}
use Rattle.relative_path_links.specs.declared.site_map.SiteMapError.{SiteMapError}
use Rattle.relative_path_links.specs.declared.site_map.SiteMapError.TheVariants.{NoFileName, NotPlain, OutOfMemory}
use Rattle.relative_path_files.specs.Names.{IfName, IsPlainName}
use Rattle.std.specs.List.{All}

-- page number k, counted from 0
abbrev pub page_at : List Page → ℕ → Page
page_at pages k = slice_index_or pages k (record { path = []; is_directory = false })

-- the components of the pages' paths
abbrev pub paths_of : List Page → List (List Step)
paths_of pages = map (λ page. page.path) pages

-- both pages lead to the same place from every base, and both are directories' pages or neither is
pub record IsSamePage (page other : Page) : Type 0 where
  pub path : IsSame page.path other.path
  pub is_directory : page.is_directory ≡ other.is_directory

-- each page has a file name
abbrev pub AreNamedPages : List Page → Type 0
AreNamedPages pages = (k : ℕ) → k < length pages → last_name (page_at pages k).path ≢ None

-- k is the number of the first page without a file name
pub record IsFirstNamelessPage (pages : List Page) (k : ℕ) : Type 0 where
  pub within : k < length pages
  pub nameless : last_name (page_at pages k).path ≡ None
  pub first : (j : ℕ) → j < k → last_name (page_at pages j).path ≢ None

-- the names among the page's components are plain
abbrev pub IsPlainPage : Page → Type 0
IsPlainPage page = All (IfName IsPlainName) page.path

-- each page's names are plain
abbrev pub ArePlainPages : List Page → Type 0
ArePlainPages pages = (k : ℕ) → k < length pages → IsPlainPage (page_at pages k)

-- k is the number of the first page with a name that isn't plain
pub record IsFirstOtherPage (pages : List Page) (k : ℕ) : Type 0 where
  pub within : k < length pages
  pub other : ¬ IsPlainPage (page_at pages k)
  pub first : (j : ℕ) → j < k → IsPlainPage (page_at pages j)

-- where references on a page start: one step up from the end of its URL path, so at a directory's page the directory
abbrev pub start_of : Page → List Step
start_of page = url_steps page ++ up ∷ []

-- the list ends in a name, or in an empty segment
abbrev pub EndsInName : List Step → Type 0
EndsInName cs = (front : List Step) × (n : List ℕ) × (cs ≡ front ++ name n ∷ [])

-- the list leads from f to t and ends in a name, and every other list that does is longer
pub record IsShortestNamed (f t link : List Step) : Type 0 where
  pub named : EndsInName link
  pub leads : Leads f link t
  pub shortest : (s : List Step) → Leads f s t → EndsInName s → (length link < length s) ⊎ (s ≡ link)

-- found is the target for the shortest list that ends in a name and leads to the end of the other page's URL path, or
-- `None` if no list leads there
abbrev pub IsHref : Page → Page → Option (List ℕ) → Type 0
IsHref from to found = MatchOption found (¬ IsReachable (start_of from) (url_steps to))
    (λ href. (link : List Step) × IsShortestNamed (start_of from) (url_steps to) link × (href ≡ target_of (spell link)))

-- what an error prints
abbrev pub site_map_error_text : SiteMapError → List ℕ
site_map_error_text (NoFileName k) = codes "page " ++ decimal k ++ codes " lacks a file name"
site_map_error_text (NotPlain k) = codes "page " ++ decimal k ++ codes " has a name that isn't plain"
site_map_error_text OutOfMemory = codes "out of memory"
