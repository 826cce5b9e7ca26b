-- The pages that change, one after another.
use Rattle.std.proofs.Common.{◌≡◌, ℕ, ◌<◌, ◌≤◌, ◌+◌, Bool, true, false, if◌then◌else◌, List, [], ◌∷◌, ◌++◌, length, take, drop, get_or, is_some, refl, sym, ap, ◌∙◌, take-append-drop, append_assoc, arith}
use Rattle.std.specs.List.{AllZip}
use Rattle.std.proofs.lemmas.List.{get_or_at, length-append, length-take-le, take_all, take_more}
use Rattle.std.proofs.lemmas.Slice.Zip.{all_zipped_more}
use Rattle.relative_path.specs.Steps.{Step, components}
use Rattle.relative_path_links.specs.declared.site.MovedSitePage.{MovedSitePage}
use Rattle.relative_path_links.specs.declared.site.SitePage.{SitePage}
use Rattle.relative_path_places.specs.PlaceIndex.{path_at}
use Rattle.relmove_steps.specs.Pages.{changed_paths}

-- how many of the first i pages change
abbrev pub count_changed : List SitePage → List MovedSitePage → ℕ → ℕ
count_changed pages news i = length (changed_paths (take i pages) (take i news))

-- no more pages change than there are
length-changed_paths : (pages : List SitePage) (news : List MovedSitePage) → length (changed_paths pages news) ≤ length pages
length-changed_paths [] news = omega arith
length-changed_paths (page ∷ pages) [] = omega arith
length-changed_paths (page ∷ pages) (new ∷ news) = either (is_some new.text) (length-changed_paths pages news)
  where
    either : (changes : Bool) → length (changed_paths pages news) ≤ length pages
        → length (if changes then components page.path.now ∷ changed_paths pages news else changed_paths pages news)
        ≤ length (page ∷ pages)
    either true so_far = omega (arith, so_far)
    either false so_far = omega (arith, so_far)

changed_paths-append : (pages more : List SitePage) (news others : List MovedSitePage) → length news ≡ length pages
    → changed_paths (pages ++ more) (news ++ others) ≡ changed_paths pages news ++ changed_paths more others
changed_paths-append [] more [] others long = refl
changed_paths-append [] more (new ∷ news) others long = absurd (omega (arith, long))
changed_paths-append (page ∷ pages) more [] others long = absurd (omega (arith, long))
changed_paths-append (page ∷ pages) more (new ∷ news) others long =
    either (is_some new.text) (changed_paths-append pages more news others (omega (arith, long)))
  where
    either : (changes : Bool)
        → changed_paths (pages ++ more) (news ++ others) ≡ changed_paths pages news ++ changed_paths more others
        → (if changes then components page.path.now ∷ changed_paths (pages ++ more) (news ++ others)
        else changed_paths (pages ++ more) (news ++ others))
        ≡ (if changes then components page.path.now ∷ changed_paths pages news else changed_paths pages news)
        ++ changed_paths more others
    either true rest = ap (λ paths. components page.path.now ∷ paths) rest
    either false rest = rest

-- the pages so far, and the next one
module _ (pages : List SitePage) (news : List MovedSitePage) (long : length news ≡ length pages) (i : ℕ) (page : SitePage)
    (new : MovedSitePage) (within : i < length pages) (is : page ≡ get_or pages i page) (is_2 : new ≡ get_or news i new)
  where
    abbrev front : List (List Step)
    front = changed_paths (take i pages) (take i news)

    long_front : length (take i news) ≡ length (take i pages)
    long_front =
        length-take-le i news (omega (arith, within, long)) ∙ sym (length-take-le i pages (omega (arith, within)))

    next_pages : take (i + 1) pages ≡ take i pages ++ page ∷ []
    next_pages = take_more pages i page within ∙ ap (λ last. take i pages ++ last ∷ []) (sym is)

    next_news : take (i + 1) news ≡ take i news ++ new ∷ []
    next_news = take_more news i new (rw long within) ∙ ap (λ last. take i news ++ last ∷ []) (sym is_2)

    next : changed_paths (take (i + 1) pages) (take (i + 1) news) ≡ front ++ changed_paths (page ∷ []) (new ∷ [])
    next = rw (next_pages, next_news) (changed_paths-append (take i pages) (page ∷ []) (take i news) (new ∷ []) long_front)

    all_pages : pages ≡ take i pages ++ page ∷ drop (i + 1) pages
    all_pages =
        sym (take-append-drop (i + 1) pages) ∙ ap (λ some. some ++ drop (i + 1) pages) next_pages
        ∙ append_assoc (take i pages) (page ∷ []) (drop (i + 1) pages)

    all_news : news ≡ take i news ++ new ∷ drop (i + 1) news
    all_news =
        sym (take-append-drop (i + 1) news) ∙ ap (λ some. some ++ drop (i + 1) news) next_news
        ∙ append_assoc (take i news) (new ∷ []) (drop (i + 1) news)

    all : changed_paths pages news ≡ front ++ changed_paths (page ∷ drop (i + 1) pages) (new ∷ drop (i + 1) news)
    all =
        ap (λ some. changed_paths some news) all_pages
        ∙ ap (changed_paths (take i pages ++ page ∷ drop (i + 1) pages)) all_news
        ∙ changed_paths-append (take i pages) (page ∷ drop (i + 1) pages) (take i news) (new ∷ drop (i + 1) news) long_front

    -- a page that stays
    pub count_changed-same : is_some new.text ≡ false → count_changed pages news (i + 1) ≡ count_changed pages news i
    count_changed-same stays =
        ap length next ∙ length-append front (changed_paths (page ∷ []) (new ∷ []))
        ∙ ap (λ changes. length front + length (if changes then components page.path.now ∷ [] else [])) stays
        ∙ omega arith

    -- a page that changes
    pub count_changed-more : is_some new.text ≡ true → count_changed pages news (i + 1) ≡ count_changed pages news i + 1
    count_changed-more changes =
        ap length next ∙ length-append front (changed_paths (page ∷ []) (new ∷ []))
        ∙ ap (λ changes. length front + length (if changes then components page.path.now ∷ [] else [])) changes

    all_changing : is_some new.text ≡ true
        → changed_paths pages news
        ≡ front ++ components page.path.now ∷ changed_paths (drop (i + 1) pages) (drop (i + 1) news)
    all_changing changes =
        all ∙ ap (λ changes. front ++ (if changes
        then components page.path.now ∷ changed_paths (drop (i + 1) pages) (drop (i + 1) news)
        else changed_paths (drop (i + 1) pages) (drop (i + 1) news))) changes

    -- it is the next of those that change
    pub count_changed-within : is_some new.text ≡ true → count_changed pages news i < length (changed_paths pages news)
    count_changed-within changes =
        let count = ap length (all_changing changes)
        ∙ length-append front (components page.path.now ∷ changed_paths (drop (i + 1) pages) (drop (i + 1) news)) in
        omega (arith, count)

    pub path_at-changed_paths : is_some new.text ≡ true
        → path_at (changed_paths pages news) (count_changed pages news i) ≡ components page.path.now
    path_at-changed_paths changes =
        ap (λ paths. get_or paths (count_changed pages news i) []) (all_changing changes)
        ∙ get_or_at front (components page.path.now) (changed_paths (drop (i + 1) pages) (drop (i + 1) news)) []
        (count_changed pages news i) refl

    -- what holds of each page and its new page so far, and of the next ones
    pub AllZip-next_page : (R : SitePage → MovedSitePage → Type 0) → AllZip R (take i pages) (take i news) → R page new
        → AllZip R (take (i + 1) pages) (take (i + 1) news)
    AllZip-next_page R so_far here =
        rw (next_pages, next_news) (all_zipped_more R (take i pages) (take i news) page new so_far here)

    -- fewer pages changed so far than there are
    pub count_changed-less : count_changed pages news i < length pages
    count_changed-less =
        let count = length-changed_paths (take i pages) (take i news) in
        let so_far = length-take-le i pages (omega (arith, within)) in
        omega (arith, count, so_far, within)

-- after the last page
pub count_changed-all : (pages : List SitePage) (news : List MovedSitePage) (i : ℕ) → length news ≡ length pages
    → length pages ≤ i → count_changed pages news i ≡ length (changed_paths pages news)
count_changed-all pages news i long all =
    ap (λ some. length (changed_paths some (take i news))) (take_all i pages all)
    ∙ ap (λ some. length (changed_paths pages some)) (take_all i news (omega (arith, long, all)))
