-- Each turn goes on to the next page, and replaces it if it changes.
use Rattle.std.proofs.Common.{◌≡◌, ◌<◌, ◌≤◌, ◌+◌, true, [], Option, IfSome, String, Global, string_bytes, length, get_or, is_some, take, get_or-take, sym, ap, subst, ◌∙◌, arith}
use Rattle.std.proofs.lemmas.List.{length-take-le, length_push}
use Rattle.std.proofs.lemmas.Slice.Zip.{zip_end, zip_turn}
use Rattle.std.specs.Iterator.Adapters.{zip_first, zip_second}
use Rattle.std.specs.Slice.Iter.{iter_rest}
use Rattle.relative_path_links.specs.declared.site.MovedSitePage.{MovedSitePage}
use Rattle.relative_path_links.specs.declared.site.SitePage.{SitePage}
use Rattle.relmove_steps.specs.Pages.{changed_paths}
use Rattle.relmove_steps.specs.Actions.{RemovesAt, ReplacesChanged, ReplacesPage, rename_texts}
use Rattle.relmove_steps.proofs.CarryLemmas.{All-RemovesAt-next, All-taken, AreAmong-trans, RemovesMoved-among, RemovesMoved-each, ReplacesPages-among}
use Rattle.relmove_steps.proofs.NewFilesLemmas.{WritesPages-next}
use Rattle.relmove_steps.proofs.OnceLemmas.{OnlyTheseLeave-more_pages}
use Rattle.relmove_steps.proofs.PagesLemmas.{AllZip-next_page, count_changed, count_changed-all, count_changed-more, count_changed-same, count_changed-within, path_at-changed_paths}
use Rattle.relmove_steps.proofs.renames.add_pages.Goals as goal
use Rattle.relmove_steps.proofs.renames.add_pages.Goals.{In-None, In-Some}

-- the pages of this turn
turn : (c : In-Some) → (length c.loop-page.yielded < length c.args.pages.now)
    × (length c.loop-page.yielded < length c.args.news.now)
    × ((d : SitePage) → c.in-Some.page.now ≡ get_or c.args.pages.now (length c.loop-page.yielded) d)
    × ((d : MovedSitePage) → c.in-Some.new.now ≡ get_or c.args.news.now (length c.loop-page.yielded) d)
turn c =
    let pages = c.args.pages.now in
    let news = c.args.news.now in
    let start = c.into_iter-page-iterator.result in
    let is = c.into_iter-page-iterator.ensures.into_iter_gives in
    let first : iter_rest (zip_first start) ≡ pages =
    ap (λ items. iter_rest (zip_first items)) is ∙ ap iter_rest c.zip-page-items.ensures.first ∙ c.iter.ensures.rest in
    let second : iter_rest (zip_second start) ≡ news =
    ap (λ items. iter_rest (zip_second items)) is ∙ c.zip-page-items.ensures.second.0 in
    zip_turn pages news c.loop-page.yielded start c.loop-page.page-iterator c.next.new.self c.next.result first second
    c.loop-page.yielded_by (c.in-Some.page, c.in-Some.new) c.in-Some.is c.next.ensures.steps

pub loop-page-preserved-in-Continue-1 : goal.loop-page-preserved-in-Continue-1
loop-page-preserved-in-Continue-1 c =
    let actions = rename_texts c.loop-page.renames in
    let more = rename_texts c.add_page.new.renames in
    let before = rename_texts c.args.renames.now in
    let pages = c.args.pages.now in
    let news = c.args.news.now in
    let page = c.in-Some.page.now in
    let new = c.in-Some.new.now in
    let paths = changed_paths pages news in
    let i = length c.loop-page.yielded in
    let k = count_changed pages news i in
    let one = turn (goal.at.loop-page-preserved-in-Continue-1 c).In-Some in
    let is = one.2 page in
    let is_2 = one.3 new in
    let changes : is_some new.text ≡ true = ap is_some c.in-Some-text.is in
    let within : k < length paths = count_changed-within pages news c.requires.long i page new one.0 is is_2 changes in
    let here = path_at-changed_paths pages news c.requires.long i page new one.0 is is_2 changes in
    let next = count_changed-more pages news c.requires.long i page new one.0 is is_2 changes in
    rw (length_push c.loop-page.yielded (c.in-Some.page, c.in-Some.new)) (record {
      kept = c.in_ok-add_page.ensures.kept;
      among = AreAmong-trans before actions more c.loop-page.invariant.among c.in_ok-add_page.ensures.among;
      replaced = AllZip-next_page pages news c.requires.long i page new one.0 is is_2 (ReplacesChanged more)
          (ReplacesPages-among actions more c.in_ok-add_page.ensures.among (take i pages) (take i news)
          c.loop-page.invariant.replaced)
          (subst (λ (found : Option (String Global)). IfSome found (λ text. ReplacesPage more page new (string_bytes text)))
          (sym c.in-Some-text.is)
          (subst (ReplacesPage more page new) c.deref.ensures c.in_ok-add_page.ensures.replaced));
      removed = λ moves has does.
          rw next
          (All-RemovesAt-next paths actions more k _ c.in_ok-add_page.ensures.among within here
          (c.in_ok-add_page.ensures.removed moves has
          (RemovesMoved-among before actions c.loop-page.invariant.among moves _
          (RemovesMoved-each paths moves before k _ within here does)))
          (c.loop-page.invariant.removed moves has does));
      only = λ moves only.
          c.in_ok-add_page.ensures.only moves paths k within here (c.loop-page.invariant.only moves only);
      free = λ index drawn. c.in_ok-add_page.ensures.free index (c.loop-page.invariant.free index drawn);
      files = λ index drawn files.
          c.in_ok-add_page.ensures.files index paths k within here (c.loop-page.invariant.free index drawn)
          (c.loop-page.invariant.files index drawn files);
      texts = λ none.
          rw next
          (WritesPages-next paths k _ actions more within here c.in_ok-add_page.ensures.texts
          (c.loop-page.invariant.texts none));
      so_far = λ moves only.
          let long = length-take-le (k + 1) paths (omega (arith, within)) in
          let within_2 : k < length (take (k + 1) paths) = omega (arith, long) in
          let same = get_or-take (k + 1) paths k [] (omega arith) in
          rw next
          (c.in_ok-add_page.ensures.only moves (take (k + 1) paths) k within_2 (same ∙ here)
          (OnlyTheseLeave-more_pages moves paths k actions within (c.loop-page.invariant.so_far moves only)));
      once = λ index entries moves has has_olds leave drawn files only once.
          c.in_ok-add_page.ensures.once index entries paths moves k has has_olds leave within here
          (c.loop-page.invariant.free index drawn) (c.loop-page.invariant.files index drawn files)
          (c.loop-page.invariant.so_far moves only)
          (c.loop-page.invariant.once index entries moves has has_olds leave drawn files only once);
    })

pub loop-page-preserved : goal.loop-page-preserved
loop-page-preserved c =
    let actions = rename_texts c.loop-page.renames in
    let pages = c.args.pages.now in
    let news = c.args.news.now in
    let page = c.in-Some.page.now in
    let new = c.in-Some.new.now in
    let i = length c.loop-page.yielded in
    let one = turn (goal.at.loop-page-preserved c).In-Some in
    let is = one.2 page in
    let is_2 = one.3 new in
    let next = count_changed-same pages news c.requires.long i page new one.0 is is_2 (ap is_some c.in_default.is) in
    rw (length_push c.loop-page.yielded (c.in-Some.page, c.in-Some.new)) (record {
      kept = c.loop-page.invariant.kept;
      among = c.loop-page.invariant.among;
      replaced = AllZip-next_page pages news c.requires.long i page new one.0 is is_2 (ReplacesChanged actions)
          c.loop-page.invariant.replaced (rw c.in_default.is tt);
      removed = λ moves has does. rw next (c.loop-page.invariant.removed moves has does);
      only = c.loop-page.invariant.only;
      free = c.loop-page.invariant.free;
      files = c.loop-page.invariant.files;
      texts = λ none. rw next (c.loop-page.invariant.texts none);
      so_far = λ moves only. rw next (c.loop-page.invariant.so_far moves only);
      once = c.loop-page.invariant.once;
    })

-- after the last page
all : (c : In-None) → length c.args.pages.now ≤ length c.loop-page.yielded
all c =
    let pages = c.args.pages.now in
    let news = c.args.news.now in
    let start = c.into_iter-page-iterator.result in
    let is = c.into_iter-page-iterator.ensures.into_iter_gives in
    let first : iter_rest (zip_first start) ≡ pages =
    ap (λ items. iter_rest (zip_first items)) is ∙ ap iter_rest c.zip-page-items.ensures.first ∙ c.iter.ensures.rest in
    let second : iter_rest (zip_second start) ≡ news =
    ap (λ items. iter_rest (zip_second items)) is ∙ c.zip-page-items.ensures.second.0 in
    let count =
    zip_end pages news c.loop-page.yielded start c.loop-page.page-iterator c.next.new.self c.next.result first second
    c.loop-page.yielded_by c.in-None.is c.next.ensures.steps in
    let long = c.requires.long in
    omega (arith, count, long)

pub returns-clause-removed : goal.returns-clause-removed
returns-clause-removed c = λ moves has does.
    let last = count_changed-all c.args.pages.now c.args.news.now (length c.loop-page.yielded) c.requires.long (all c) in
    All-taken (RemovesAt (rename_texts c.loop-page.renames)) (changed_paths c.args.pages.now c.args.news.now) _
    (omega (arith, last)) (c.loop-page.invariant.removed moves has does)
