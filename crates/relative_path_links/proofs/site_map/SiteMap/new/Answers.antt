-- Each turn inserts the next page into the index. At the end the index has all pages. Only one page is the first with a
-- name that isn't plain.
use Rattle.std.proofs.Common.{◌≡◌, Err, map, subst, ap}
use Rattle.relative_path_links.specs.SiteMap.{IsFirstOtherPage}
use Rattle.relative_path_links.specs.UrlPath.{page_of}
use Rattle.relative_path_links.specs.declared.site_map.SiteMapError.TheVariants.{NotPlain}
use Rattle.relative_path_links.proofs.SiteMapLemmas.{Indexes-next, IsFirstOtherPage-only}
use Rattle.relative_path_links.proofs.site_map.SiteMap.new.Goals as goal

pub loop-k-preserved : goal.loop-k-preserved
loop-k-preserved c =
    Indexes-next c.args.pages.now _ c.loop-k.k c.loop-k.by_place c.insert.new.self c.loop-k-test.true
    c.in_ok-insert.ensures.indexes c.loop-k.invariant

pub returns-in-Some-first_not_plain-clause-not_plain : goal.returns-in-Some-first_not_plain-clause-not_plain
returns-in-Some-first_not_plain-clause-not_plain c = λ j. (
  λ is.
      let same : c.in-Some-first_not_plain.k ≡ j = cc in
      (c.in_default.ensures, subst (IsFirstOtherPage (map page_of c.args.pages.now)) same c.in-Some-first_not_plain.ensures),
  λ both. ap (λ k. Err (NotPlain k))
      (IsFirstOtherPage-only (map page_of c.args.pages.now) c.in-Some-first_not_plain.k j c.in-Some-first_not_plain.ensures both.1),
)
