-- Each turn goes on to the next page. If it changes, its path is the next one.
use Rattle.std.proofs.Common.{◌≡◌, ◌<◌, ◌+◌, ◌^◌, length, get_or, take, sym, ap, ◌∙◌, arith}
use Rattle.std.proofs.lemmas.List.{length-take-le, length_push}
use Rattle.std.proofs.lemmas.Slice.Zip.{zip_turn}
use Rattle.std.specs.Iterator.Adapters.{zip_first, zip_second}
use Rattle.std.specs.Slice.Iter.{iter_rest}
use Rattle.relative_path.specs.Steps.{components}
use Rattle.relative_path_links.specs.declared.site.MovedSitePage.{MovedSitePage}
use Rattle.relative_path_links.specs.declared.site.SitePage.{SitePage}
use Rattle.relative_path_places.specs.PlaceIndex.{path_at}
use Rattle.relmove_steps.specs.Pages.{changed_paths}
use Rattle.relmove_steps.proofs.CarryLemmas.{Indexes-next}
use Rattle.relmove_steps.proofs.PagesLemmas.{count_changed-less, count_changed-more, count_changed-same, count_changed-within, path_at-changed_paths}
use Rattle.relmove_steps.proofs.changed.changed_index.Goals as goal
use Rattle.relmove_steps.proofs.changed.changed_index.Goals.{In-Some}

-- the pages of this turn
turn : (c : In-Some) → (length c.loop-page.yielded < length c.args.pages.now)
    × (length c.loop-page.yielded < length c.args.news.now)
    × ((d : SitePage) → c.in-Some.page.now ≡ get_or c.args.pages.now (length c.loop-page.yielded) d)
    × ((d : MovedSitePage) → c.in-Some.new.now ≡ get_or c.args.news.now (length c.loop-page.yielded) d)
turn c =
    let pages = c.args.pages.now in
    let news = c.args.news.now in
    let start = c.into_iter-page-iterator.result in
    let is = c.into_iter-page-iterator.ensures.into_iter_gives in
    let first : iter_rest (zip_first start) ≡ pages =
    ap (λ items. iter_rest (zip_first items)) is ∙ ap iter_rest c.zip-page-items.ensures.first ∙ c.iter.ensures.rest in
    let second : iter_rest (zip_second start) ≡ news =
    ap (λ items. iter_rest (zip_second items)) is ∙ c.zip-page-items.ensures.second.0 in
    zip_turn pages news c.loop-page.yielded start c.loop-page.page-iterator c.next.new.self c.next.result first second
    c.loop-page.yielded_by (c.in-Some.page, c.in-Some.new) c.in-Some.is c.next.ensures.steps

pub overflow_add-number : goal.overflow_add-number
overflow_add-number c =
    let here = turn (goal.at.overflow_add-number c).In-Some in
    let less : c.loop-page.number < length c.args.pages.now =
    rw c.loop-page.invariant.count
    (count_changed-less c.args.pages.now c.args.news.now c.requires (length c.loop-page.yielded) c.in-Some.page.now
    c.in-Some.new.now here.0 (here.2 c.in-Some.page.now) (here.3 c.in-Some.new.now)) in
    let long : length c.args.pages.now < 2 ^ 64 = rw c.iter.ensures.rest at c.iter.ensures.bound in
    omega (arith, less, long)

pub loop-page-preserved-then-is_some : goal.loop-page-preserved-then-is_some
loop-page-preserved-then-is_some c =
    let pages = c.args.pages.now in
    let news = c.args.news.now in
    let i = length c.loop-page.yielded in
    let page = c.in-Some.page.now in
    let new = c.in-Some.new.now in
    let paths = changed_paths pages news in
    let here = turn (goal.at.loop-page-preserved-then-is_some c).In-Some in
    let changes = sym c.is_some.ensures ∙ c.if-is_some.true in
    let count = c.loop-page.invariant.count in
    let within : c.loop-page.number < length paths =
    rw count (count_changed-within pages news c.requires i page new here.0 (here.2 page) (here.3 new) changes) in
    record {
      count = rw (length_push c.loop-page.yielded (c.in-Some.page, c.in-Some.new))
          (ap (λ n. n + 1) count
          ∙ sym (count_changed-more pages news c.requires i page new here.0 (here.2 page) (here.3 new) changes));
      has = Indexes-next paths c.loop-page.number (components page.path.now) c.insert_normal.new.self within
          (ap (path_at paths) count
          ∙ path_at-changed_paths pages news c.requires i page new here.0 (here.2 page) (here.3 new) changes)
          (c.in_ok-insert_normal.ensures.indexes (take c.loop-page.number paths) (components page.path.now)
          c.loop-page.invariant.has (length-take-le c.loop-page.number paths (omega (arith, within)))
          c.in_ok-path.ensures.normal);
    }

pub loop-page-preserved : goal.loop-page-preserved
loop-page-preserved c =
    let here = turn (goal.at.loop-page-preserved c).In-Some in
    let page = c.in-Some.page.now in
    let new = c.in-Some.new.now in
    record {
      count = rw (length_push c.loop-page.yielded (c.in-Some.page, c.in-Some.new))
          (c.loop-page.invariant.count
          ∙ sym (count_changed-same c.args.pages.now c.args.news.now c.requires (length c.loop-page.yielded) page new here.0
          (here.2 page) (here.3 new) (sym c.is_some.ensures ∙ c.if-is_some.false)));
      has = c.loop-page.invariant.has;
    }
