-- The shortest path between the directories, and then the last segment, as a target. The target is the same for every
-- spelling of the pages.
use Rattle.std.proofs.Common.{◌≡◌, ◌++◌, ◌∷◌, [], sym, ap, ◌∙◌, None, Some, string_bytes, rules}
use Rattle.relative_path.specs.Editing.{pushed}
use Rattle.relative_path.specs.Naming.{last_name}
use Rattle.relative_path.specs.Relating.{IsShortestText}
use Rattle.relative_path.specs.RelativePath.{path_text, path_components}
use Rattle.relative_path.proofs.ForCallers.{SpellThemselves-components}
use Rattle.relative_path.specs.Steps.{name, components, spell, SpellThemselves}
use Rattle.relative_path_places.specs.Places.{directory}
use Rattle.target_paths.specs.Writing.{target_of}
use Rattle.relative_path_links.specs.UrlPath.{url_steps}
use Rattle.relative_path_links.specs.SiteMap.{page_at, start_of, IsShortestNamed}
use Rattle.relative_path_links.proofs.UrlPathLemmas.{IsSegment}
use Rattle.relative_path_links.proofs.SiteMapLemmas.{some_segment, none_of_way, some_of_way, none_between, IsShortestNamed-between, IsHref-same, IsSegment-last_name, pushed-segment, Resolves-between}
use Rattle.relative_path_links.proofs.site_map.SiteMap.href.Goals as goal

pub returns-in_default-clause-href : goal.returns-in_default-clause-href
returns-in_default-clause-href c =
    let from = page_at c.args.self.now c.args.from in
    let to = page_at c.args.self.now c.args.to in
    let (m, from_named) = some_segment from (rw (← c.page.ensures.page) c.page.ensures.named) in
    let (n, to_named) = some_segment to (rw (← c.page-page.ensures.page) c.page-page.ensures.named) in
    none_between (url_steps from) (url_steps to) m n from_named to_named
    (none_of_way (path_components c.start_of.result) (path_components c.start_of-2.result) _ _ c.in_ok-way.way
    c.in_default.is (c.start_of.ensures ∙ ap (λ page. directory (url_steps page)) c.page.ensures.page)
    (c.start_of-2.ensures ∙ ap (λ page. directory (url_steps page)) c.page-page.ensures.page) c.in_ok-way.ensures.none)

pub returns-in_default-clause-alike : goal.returns-in_default-clause-alike
returns-in_default-clause-alike c page other same_page same_other =
    IsHref-same (page_at c.args.self.now c.args.from) page (page_at c.args.self.now c.args.to) other None
    (returns-in_default-clause-href c) same_page same_other

-- the components of the path between the two directories
way : (c : goal.After-drop-link-inside-2) → IsShortestText (directory (url_steps (page_at c.args.self.now c.args.from)))
    (directory (url_steps (page_at c.args.self.now c.args.to))) c.in-Some.link.text
way c =
    some_of_way (path_components c.start_of.result) (path_components c.start_of-2.result) _ _ c.in_ok-way.way
    c.in-Some.link c.in-Some.is (c.start_of.ensures ∙ ap (λ page. directory (url_steps page)) c.page.ensures.page)
    (c.start_of-2.ensures ∙ ap (λ page. directory (url_steps page)) c.page-page.ensures.page)
    c.in_ok-way.ensures.shortest

-- the last segment
last : (c : goal.After-drop-link-inside-2) → last_name (url_steps (page_at c.args.self.now c.args.to)) ≡ Some c.last_segment.result.now
last c = ap (λ page. last_name (url_steps page)) (sym c.page-page.ensures.page) ∙ c.last_segment.ensures

is_segment : (c : goal.After-drop-link-inside-2) → IsSegment c.last_segment.result.now
is_segment c =
    let proper : SpellThemselves (page_at c.args.self.now c.args.to).path =
    rw (← c.page-page.ensures.page) (SpellThemselves-components (path_text c.page-page.result)) in
    IsSegment-last_name (page_at c.args.self.now c.args.to) c.last_segment.result.now proper (last c)

-- the link
link : (c : goal.After-drop-link-inside-2)
    → IsShortestNamed (start_of (page_at c.args.self.now c.args.from)) (url_steps (page_at c.args.self.now c.args.to))
    (components c.in-Some.link.text ++ name c.last_segment.result.now ∷ [])
link c =
    let from = page_at c.args.self.now c.args.from in
    let to = page_at c.args.self.now c.args.to in
    let (m, from_named) = some_segment from (rw (← c.page.ensures.page) c.page.ensures.named) in
    IsShortestNamed-between (url_steps from) (url_steps to) m c.last_segment.result.now from_named (last c)
    c.in-Some.link.text (way c)

-- the result is the target for the link
text : (c : goal.After-drop-link-inside-2) → string_bytes c.in_ok-href.href
    ≡ target_of (spell (components c.in-Some.link.text ++ name c.last_segment.result.now ∷ []))
text c =
    let pushes : string_bytes c.in_ok-href.href ≡ target_of (pushed c.in-Some.link.text c.last_segment.result.now) =
    search rules in
    pushes ∙ ap target_of (pushed-segment c.in-Some.link.text c.last_segment.result.now (way c).spelled (is_segment c))

pub returns-clause-href : goal.returns-clause-href
returns-clause-href c =
    (components c.in-Some.link.text ++ name c.last_segment.result.now ∷ [], link c, text c)

pub returns-clause-alike : goal.returns-clause-alike
returns-clause-alike c page other same_page same_other =
    IsHref-same (page_at c.args.self.now c.args.from) page (page_at c.args.self.now c.args.to) other
    (Some (string_bytes c.in_ok-href.href)) (returns-clause-href c) same_page same_other

pub returns-clause-resolves : goal.returns-clause-resolves
returns-clause-resolves c =
    let proper : SpellThemselves (page_at c.args.self.now c.args.from).path =
    rw (← c.page.ensures.page) (SpellThemselves-components (path_text c.page.result)) in
    Resolves-between (page_at c.args.self.now c.args.from) (page_at c.args.self.now c.args.to)
    (components c.in-Some.link.text) c.last_segment.result.now (string_bytes c.in_ok-href.href) proper
    (SpellThemselves-components c.in-Some.link.text) (is_segment c) (link c).leads (text c)
