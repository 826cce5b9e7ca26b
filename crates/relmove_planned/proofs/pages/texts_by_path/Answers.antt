-- Each turn adds the text of the next page.
use Rattle.std.proofs.Common.{◌≡◌, ◌+◌, [], ◌∷◌, ◌++◌, ap, subst, sym, take, arith, ◌∙◌}
use Rattle.std.proofs.lemmas.List.{take_all, take_more}
use Rattle.relative_path.proofs.ForCallers.{IsSame-refl}
use Rattle.relative_path.specs.Normalizing.{IsNormalTextOf}
use Rattle.relative_path.specs.Steps.{components}
use Rattle.relative_path_links.specs.declared.site.SitePage.{SitePage}
use Rattle.relative_path_places.proofs.ForCallers.{IsNormalTextOf-same}
use Rattle.relmove_planned.specs.Plans.{ArePageTexts, HaveTexts}
use Rattle.relmove_work.specs.Pages.{page_texts}
use Rattle.relmove_planned.proofs.PageTextsLemmas.{ArePageTexts-next, HaveTexts-next, IsPut, IsPut-inserted}
use Rattle.relmove_planned.proofs.pages.texts_by_path.Goals as goal

pub loop-page-preserved : goal.loop-page-preserved
loop-page-preserved c =
    let pages = c.args.pages.now in
    let k = c.loop-page.page-index in
    let page = c.page-item.result in
    let old = page_texts c.loop-page.texts in
    let new = page_texts c.insert.new.self in
    let normal : IsNormalTextOf (components page.path.now) page.path.now =
    IsNormalTextOf-same (components page.path.now) page.path.now c.as_relative_path.ensures.normal
    (IsSame-refl (components page.path.now)) in
    let put : IsPut old new page.path.now page.text.now =
    subst (λ key. IsPut old new key page.text.now) (c.as_str.ensures ∙ c.as_relative_path.ensures.text)
    (rw c.in_ok-insert.ensures.entries (IsPut-inserted c.loop-page.texts.entries c.as_str.result page.text)) in
    let so_far : take (k + 1) pages ≡ take k pages ++ page ∷ [] =
    take_more pages k page c.loop-page-test.true ∙ ap (λ (item : SitePage). take k pages ++ item ∷ []) (sym c.page-item.is) in
    subst (λ pages. ArePageTexts pages new × HaveTexts pages new) (sym so_far) (
      ArePageTexts-next (take k pages) page old new normal c.loop-page.invariant.0 put,
      HaveTexts-next (take k pages) page old new normal c.loop-page.invariant.1 put,
    )

pub returns : goal.returns
returns c =
    let all = take_all c.loop-page.page-index c.args.pages.now (omega (arith, c.loop-page-test.false)) in
    record {
      texts = subst (λ pages. ArePageTexts pages (page_texts c.loop-page.texts)) all c.loop-page.invariant.0;
      all = subst (λ pages. HaveTexts pages (page_texts c.loop-page.texts)) all c.loop-page.invariant.1;
    }
