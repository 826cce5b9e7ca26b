-- In a whole tree, what moves and what changes leaves from entries, each once.
use Rattle.std.proofs.Common.{All, AllPairs, Bool, true, false, if◌then◌else◌, ◌≡◌, suc, ◌<◌, List, [], ◌∷◌, get_or, is_some, refl, sym, ap, subst, ◌∙◌, arith}
use Rattle.std.specs.List.{AllZip}
use Rattle.std.proofs.lemmas.List.{get_or-map, get_or_default, length-map}
use Rattle.std.proofs.lemmas.List.Elements.{All-cons, All-head, All-nil, All-tail}
use Rattle.std.proofs.lemmas.List.Kept.{AllPairs-cons}
use Rattle.relative_path.specs.Steps.{Step, components}
use Rattle.relative_path.specs.Walk.{IsSame}
use Rattle.relative_path.proofs.ForCallers.{IsSame-place, IsSame-refl, IsSame-sym, IsSame-trans}
use Rattle.relative_path_links.specs.declared.site.MovedSitePage.{MovedSitePage}
use Rattle.relative_path_links.specs.declared.site.SitePage.{SitePage}
use Rattle.relative_path_moves.specs.Moves.{Move}
use Rattle.relative_path_places.specs.PlaceIndex.{IsNoneAt, path_at}
use Rattle.relmove_checks.specs.declared.entry.Entry.{Entry}
use Rattle.relmove_checks.specs.declared.name_rule.NameRule.{NameRule}
use Rattle.relmove_checks.specs.Plan.{AreAllowed}
use Rattle.relmove_checks.specs.Trees.{AreDistinct, entry_paths}
use Rattle.relmove_steps.specs.NewFiles.{LeaveFromEntries}
use Rattle.relmove_steps.specs.Pages.{changed_paths, page_paths}
use Rattle.relmove_plan.specs.WholeTrees.{LeadsToFile, IsWhole}

-- ---- the pages that change

-- what holds of the paths of all pages holds of those of the pages that change
pub All-changed_paths : (P : List Step → Type 0) (pages : List SitePage) (news : List MovedSitePage)
    → All P (page_paths pages) → All P (changed_paths pages news)
All-changed_paths P [] news each = each
All-changed_paths P (page ∷ pages) [] each = All-nil P
All-changed_paths P (page ∷ pages) (new ∷ news) each =
    either (is_some new.text)
    (All-changed_paths P pages news (All-tail P (components page.path.now) (page_paths pages) each))
  where
    either : (changes : Bool) → All P (changed_paths pages news)
        → All P (if changes then components page.path.now ∷ changed_paths pages news else changed_paths pages news)
    either true rest =
        All-cons P (components page.path.now) (changed_paths pages news)
        (All-head P (components page.path.now) (page_paths pages) each) rest
    either false rest = rest

-- the same of each path and each later one
AllPairs-changed_paths : (R : List Step → List Step → Type 0) (pages : List SitePage) (news : List MovedSitePage)
    → AllPairs R (page_paths pages) → AllPairs R (changed_paths pages news)
AllPairs-changed_paths R [] news each = each
AllPairs-changed_paths R (page ∷ pages) [] each = λ i j d l within. absurd (let w : j < 0 = within in omega (arith, w))
AllPairs-changed_paths R (page ∷ pages) (new ∷ news) each =
    either (is_some new.text)
    (AllPairs-changed_paths R pages news
    (λ i j d l within. each (suc i) (suc j) d (omega (arith, l)) (omega (arith, within))))
  where
    either : (changes : Bool) → AllPairs R (changed_paths pages news)
        → AllPairs R (if changes then components page.path.now ∷ changed_paths pages news else changed_paths pages news)
    either true rest =
        AllPairs-cons R (components page.path.now) (changed_paths pages news)
        (All-changed_paths (R (components page.path.now)) pages news
        (λ k d l. each 0 (suc k) d (omega arith) (omega (arith, l)))) rest
    either false rest = rest

-- what holds of each page that changes, by what holds of the page and its new page
pub All-changed_pages : (P : List Step → Type 0) (R : SitePage → MovedSitePage → Type 0) (pages : List SitePage)
    (news : List MovedSitePage)
    → ((page : SitePage) (new : MovedSitePage) → is_some new.text ≡ true → R page new → P (components page.path.now))
    → AllZip R pages news → All P (changed_paths pages news)
All-changed_pages P R [] news of each = All-nil P
All-changed_pages P R (page ∷ pages) [] of each = All-nil P
All-changed_pages P R (page ∷ pages) (new ∷ news) of each =
    either (is_some new.text) refl (All-changed_pages P R pages news of each.1)
  where
    either : (changes : Bool) → is_some new.text ≡ changes → All P (changed_paths pages news)
        → All P (if changes then components page.path.now ∷ changed_paths pages news else changed_paths pages news)
    either true is rest = All-cons P (components page.path.now) (changed_paths pages news) (of page new is each.0) rest
    either false is rest = rest

-- no two pages that change are at one place
pub AreDistinct-changed_paths : (pages : List SitePage) (news : List MovedSitePage) → AreDistinct (page_paths pages)
    → AreDistinct (changed_paths pages news)
AreDistinct-changed_paths pages news distinct = λ k l. record {
  within = l;
  same = IsSame-refl (path_at (changed_paths pages news) k);
  first = λ j less. apart j k [] less l;
}
  where
    apart : AllPairs (λ one other. ¬ IsSame other one) (changed_paths pages news)
    apart =
        AllPairs-changed_paths (λ one other. ¬ IsSame other one) pages news
        (λ i j d less within same.
        (distinct j within).first i less
        (subst (IsSame (path_at (page_paths pages) j)) (get_or_default (page_paths pages) i d [] (omega (arith, less, within)))
        (subst (λ path. IsSame path (get_or (page_paths pages) i d)) (get_or_default (page_paths pages) j d [] within) same)))

-- ---- a whole tree

-- a page is where an entry is
file_there : (entries : List Entry) (cs : List Step) → LeadsToFile entries cs → ¬ IsNoneAt (entry_paths entries) cs
file_there entries cs is none =
    let (j, entry, j_in, here, at) = is.file in
    let long_entries = length-map entries (λ (entry : Entry). components entry.path) in
    let there : path_at (entry_paths entries) j ≡ components entry.path =
    get_or-map (λ (entry : Entry). components entry.path) entries j entry [] j_in
    ∙ ap (λ (entry : Entry). components entry.path) here in
    none j (omega (arith, j_in, long_entries))
    (subst (IsSame cs) (sym there) (IsSame-trans (IsSame-place is.leads) (IsSame-sym (IsSame-place at.leads))))

pub LeaveFromEntries-whole : (entries : List Entry) (pages : List SitePage) (news : List MovedSitePage) (moves : List Move)
    (rule : NameRule) → AreAllowed entries moves rule → IsWhole entries (page_paths pages)
    → LeaveFromEntries (entry_paths entries) moves (changed_paths pages news)
LeaveFromEntries-whole entries pages news moves rule accepted whole = record {
  apart = accepted.apart.come.leave.apart;
  distinct = AreDistinct-changed_paths pages news whole.pages_distinct;
  olds = λ k l none.
      let (e, first) = (accepted.apart.come.leave.olds k l).there in none e first.within first.same;
  pages_there = λ k l.
      file_there entries (path_at (changed_paths pages news) k)
      (All-changed_paths (LeadsToFile entries) pages news whole.files k [] l);
}
