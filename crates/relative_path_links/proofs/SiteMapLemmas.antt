-- References between pages, however the pages are spelled, and pages without file names.
use Rattle.std.proofs.Common.{◌≡◌, ◌≢◌, inl, inr, ℕ, ◌<◌, ◌+◌, List, [], ◌∷◌, ◌++◌, length, take, map, append_assoc, length-append, get_or, Bool, true, false, not, ◌↔◌, Option, Some, None, is_some, IsNone, IfSome, Bor, below_more, true≢false, codes, if◌then◌else◌, refl, sym, ap, ap₂, ◌∙◌, subst, arith}
use Rattle.std.proofs.lemmas.Bool.{cases_lt}
use Rattle.std.proofs.lemmas.List.{append_cancel_left, append_cancel_right, get_or-map, length-map, take_more, length-take-le}
use Rattle.std.proofs.lemmas.Option.{none-some, same_Some}
use Rattle.std.proofs.lemmas.Simd.{map-map}
use Rattle.std.specs.List.{All}
use Rattle.std.specs.Option.{option_and_then, option_copied}
use Rattle.relative_path.specs.Steps.{Step, up, name, slash, step_text, components, spell, SpellsItself, SpellThemselves}
use Rattle.relative_path.specs.Walk.{walk, IsSame}
use Rattle.relative_path.specs.Relating.{Leads, IsReachable, IsShortestText}
use Rattle.relative_path.specs.RelativePathBuf.{Buffer}
use Rattle.relative_path.specs.Editing.{pushed, with_separator, unslashed}
use Rattle.relative_path.specs.Naming.{last_name}
use Rattle.relative_path.proofs.ForCallers.{walk-append, walk-append_some, walk-some, IsSame-sym, IsSame-trans, IsSame-append_right, IsSame-name_up, IsSame-last_name, Leads-same, IsReachable-same, SpellsItself-last_name, last_name-name, spell-pushed}
use Rattle.relative_path.proofs.OnLiterals.{relative_path_on_literals}
use Rattle.relative_path_places.specs.Places.{directory}
use Rattle.relative_path.specs.RelativePath.{path_components}
use Rattle.relative_path.specs.declared.path.RelativePath.{RelativePath}
use Rattle.relative_path_places.specs.PlaceIndex.{Indexes}
use Rattle.relative_path_places.specs.declared.place_index.PlaceIndex.{PlaceIndex}
use Rattle.target_paths.specs.Writing.{target_of}
use Rattle.relative_path_links.specs.UrlPath.{Page, page_of, url_steps, segments_of, resolved, decoded, Resolves}
use Rattle.relative_path_links.specs.SiteMap.{page_at, paths_of, AreNamedPages, IsSamePage, start_of, IsShortestNamed, IsFirstNamelessPage, IsFirstOtherPage, IsPlainPage, IsHref}
use Rattle.relative_path_files.specs.Names.{IfName, IsPlainName}
use Rattle.relative_path_links.proofs.UrlPathLemmas.{IsSegment, IsSegment-empty, IsSegment-proper, AreSegments, AreSegments-proper, AreSegments-push, Segments-walk, without_last-up, resolved-walk, path_written-spell}

-- ---- pages by other spellings

-- pages that lead to the same place, both directories' or neither, have URL paths that lead to the same place
IsSame-url_steps : (page other : Page) → IsSamePage page other → IsSame (url_steps page) (url_steps other)
IsSame-url_steps page other same =
    of page.is_directory other.is_directory same.is_directory where
      of : (t u : Bool) → t ≡ u
          → IsSame (if t then page.path ++ name [] ∷ [] else page.path) (if u then other.path ++ name [] ∷ [] else other.path)
      of true true e = IsSame-append_right (name [] ∷ []) same.path
      of false false e = same.path
      of true false e = absurd (cc)
      of false true e = absurd (cc)

-- the reference between two pages is the same for every spelling of the pages
IsShortestNamed-same : (f g t u link : List Step) → IsSame f g → IsSame t u → IsShortestNamed f t link
    → IsShortestNamed g u link
IsShortestNamed-same f g t u link from to is = record {
  named = is.named;
  leads = Leads-same link from to is.leads;
  shortest = λ s leads. is.shortest s (Leads-same s (IsSame-sym from) (IsSame-sym to) leads);
}

pub IsHref-same : (from page to other : Page) (found : Option (List ℕ)) → IsHref from to found
    → IsSamePage from page → IsSamePage to other → IsHref page other found
IsHref-same from page to other None none same_from same_to =
    let start = IsSame-append_right (up ∷ []) (IsSame-url_steps from page same_from) in
    λ reach. none (IsReachable-same (IsSame-sym start) (IsSame-sym (IsSame-url_steps to other same_to)) reach)
IsHref-same from page to other (Some href) (link, is, text) same_from same_to =
    let start = IsSame-append_right (up ∷ []) (IsSame-url_steps from page same_from) in (
      link,
      IsShortestNamed-same (start_of from) (start_of page) (url_steps to) (url_steps other) link start
          (IsSame-url_steps to other same_to) is,
      text,
    )

-- ---- a page's directory and its file name

-- one step up from a list with a file name is its directory
IsSame-above : (cs : List Step) (n : List ℕ) → last_name cs ≡ Some n → IsSame (cs ++ up ∷ []) (directory cs)
IsSame-above cs n named =
    IsSame-trans (IsSame-append_right (up ∷ []) (IsSame-last_name cs n named)) (IsSame-name_up (directory cs) n)

-- a page that is not nameless has a file name
some_name : (cs : List Step) → last_name cs ≢ None → (n : List ℕ) × (last_name cs ≡ Some n)
some_name cs named = tell (last_name cs) refl where
  tell : (found : Option (List ℕ)) → last_name cs ≡ found → (n : List ℕ) × (last_name cs ≡ Some n)
  tell None none = absurd (named none)
  tell (Some n) is = (n, is)

-- its URL path ends in a name or in an empty segment
pub some_segment : (page : Page) → last_name page.path ≢ None → (n : List ℕ) × (last_name (url_steps page) ≡ Some n)
some_segment page named = of page.is_directory where
  of : (t : Bool) → (n : List ℕ) × (last_name (if t then page.path ++ name [] ∷ [] else page.path) ≡ Some n)
  of true = ([], last_name-name page.path [])
  of false = some_name page.path named

-- the last segment, by the same
pub last_name-slash : (path : List Step) (t : Bool) → t ≡ true
    → last_name (if t then path ++ name [] ∷ [] else path) ≡ Some []
last_name-slash path true is = last_name-name path []
last_name-slash path false is = absurd (true≢false (sym is))

-- the last segment of a page whose path spells itself is a segment
pub IsSegment-last_name : (page : Page) (n : List ℕ) → SpellThemselves page.path → last_name (url_steps page) ≡ Some n
    → IsSegment n
IsSegment-last_name page n proper named = of page.is_directory named where
  of : (t : Bool) → last_name (if t then page.path ++ name [] ∷ [] else page.path) ≡ Some n → IsSegment n
  of true is =
      let same : [] ≡ n = same_Some _ _ (sym (last_name-name page.path []) ∙ is) in subst IsSegment same IsSegment-empty
  of false is = IsSegment-proper n (SpellsItself-last_name page.path n proper is)

AreSegments-url_steps : (page : Page) → SpellThemselves page.path → AreSegments (url_steps page)
AreSegments-url_steps page proper = of page.is_directory where
  of : (t : Bool) → AreSegments (if t then page.path ++ name [] ∷ [] else page.path)
  of true = AreSegments-push page.path [] (AreSegments-proper page.path proper) IsSegment-empty
  of false = AreSegments-proper page.path proper

-- ---- from one page to another by their directories

module _ (from to : List Step) (m n : List ℕ) (from_named : last_name from ≡ Some m)
    (to_named : last_name to ≡ Some n) where
  -- a list that leads from the page leads from its directory
  from_directory : (r : List Step) → IsSame ((from ++ up ∷ []) ++ r) (directory from ++ r)
  from_directory r = IsSame-append_right r (IsSame-above from m from_named)

  -- a list that leads to the other page's directory, and then the page's name, lead to the page
  Leads-name : (r : List Step) → Leads (directory from) r (directory to) → Leads (from ++ up ∷ []) (r ++ name n ∷ []) to
  Leads-name r leads =
      rw (← append_assoc (from ++ up ∷ []) r (name n ∷ []))
      (IsSame-trans (IsSame-append_right (name n ∷ []) (IsSame-trans (from_directory r) leads))
      (IsSame-sym (IsSame-last_name to n to_named)))

  -- a list that leads to the other page, and then one step up, lead to its directory
  Leads-up : (r : List Step) → Leads (from ++ up ∷ []) r to → IsSame ((directory from ++ r) ++ up ∷ []) (directory to)
  Leads-up r leads =
      IsSame-trans (IsSame-append_right (up ∷ []) (IsSame-trans (IsSame-sym (from_directory r)) leads))
      (IsSame-above to n to_named)

  pub none_between : (¬ IsReachable (directory from) (directory to)) → ¬ IsReachable (from ++ up ∷ []) to
  none_between none (r, leads) = none (r ++ up ∷ [], rw (append_assoc (directory from) r (up ∷ [])) at (Leads-up r leads))

  -- a list that ends in a name and leads to the page leads to its directory without that name
  Leads-front : (front : List Step) (k : List ℕ) → Leads (from ++ up ∷ []) (front ++ name k ∷ []) to
      → Leads (directory from) front (directory to)
  Leads-front front k leads =
      IsSame-trans (IsSame-sym (IsSame-name_up (directory from ++ front) k))
      (rw (← append_assoc (directory from) front (name k ∷ [])) at (Leads-up (front ++ name k ∷ []) leads))

  -- the name at the end of such a list is the page's file name
  same_name : (front : List Step) (k : List ℕ) → Leads (from ++ up ∷ []) (front ++ name k ∷ []) to
      → Leads (directory from) front (directory to) → k ≡ n
  same_name front k leads way =
      let (base, place, is) = walk-some (directory to) in
      let there : walk base ((from ++ up ∷ []) ++ front) ≡ Some place =
      (IsSame-trans (from_directory front) way).everywhere base ∙ is in
      let one : walk base to ≡ Some (place ++ k ∷ []) = sym (leads.everywhere base)
      ∙ ap (walk base) (sym (append_assoc (from ++ up ∷ []) front (name k ∷ [])))
      ∙ walk-append base ((from ++ up ∷ []) ++ front) (name k ∷ [])
      ∙ ap (option_and_then (λ place. walk place (name k ∷ []))) there in
      let other : walk base to ≡ Some (place ++ n ∷ []) = (IsSame-last_name to n to_named).everywhere base
      ∙ walk-append base (directory to) (name n ∷ []) ∙ ap (option_and_then (λ place. walk place (name n ∷ []))) is in
      let last = append_cancel_left place (k ∷ []) (n ∷ []) (same_Some _ _ (sym one ∙ other)) in
      cc

  -- the shortest path between the directories, and then the name, are the shortest list that ends in a name
  pub IsShortestNamed-between : (way : List ℕ) → IsShortestText (directory from) (directory to) way
      → IsShortestNamed (from ++ up ∷ []) to (components way ++ name n ∷ [])
  IsShortestNamed-between way is = record {
    named = (components way, n, refl);
    leads = Leads-name (components way) is.shortest.leads;
    shortest = λ s leads (front, k, ends).
        let ahead : Leads (from ++ up ∷ []) (front ++ name k ∷ []) to = rw (← ends) leads in
        let way_front : Leads (directory from) front (directory to) = Leads-front front k ahead in
        elim (is.shortest.shortest front way_front) [
          | inl less ↦
              inl (omega (
                arith,
                less,
                ap length ends,
                length-append (components way) (name n ∷ []),
                length-append front (name k ∷ []),
              ))
          | inr same ↦ inr (ends ∙ ap₂ (λ front k. front ++ name k ∷ []) same (same_name front k ahead way_front))
        ];
  }

-- what `try_relative` returns for two directories
pub none_of_way : (f t f' t' : List Step) (found : Option Buffer) → found ≡ None → f ≡ f' → t ≡ t'
    → (IsNone found ↔ (¬ IsReachable f t)) → ¬ IsReachable f' t'
none_of_way f t f' t' found none from to is = rw (from, to) at (is.0 (rw none refl))

pub some_of_way : (f t f' t' : List Step) (found : Option Buffer) (way : Buffer) → found ≡ Some way → f ≡ f' → t ≡ t'
    → IfSome found (λ way. IsShortestText f t way.text) → IsShortestText f' t' way.text
some_of_way f t f' t' found way is from to shortest = rw (from, to) at (rw is at shortest)

-- ---- the text of the link

-- the texts of components, with a slash after each
abbrev fronts : List Step → List ℕ
fronts [] = []
fronts (c ∷ cs) = step_text c ++ slash ∷ fronts cs

spell-fronts : (cs : List Step) (n : List ℕ) → spell (cs ++ name n ∷ []) ≡ fronts cs ++ n
spell-fronts [] n = refl
spell-fronts (c ∷ []) n = sym (append_assoc (step_text c) (slash ∷ []) n)
spell-fronts (c ∷ d ∷ cs) n =
    ap (λ text. step_text c ++ slash ∷ text) (spell-fronts (d ∷ cs) n)
    ∙ sym (append_assoc (step_text c) (slash ∷ fronts (d ∷ cs)) n)

SpellsItself-a : SpellsItself (name (codes "a"))
unfolding relative_path_on_literals
SpellsItself-a = refl

-- a text that spells components, with its separator
with_separator-fronts : (way : List ℕ) → way ≡ spell (components way) → with_separator way ≡ fronts (components way)
with_separator-fronts way spelled =
    append_cancel_right (with_separator way) (fronts (components way)) (codes "a")
    (spell-pushed way (name (codes "a")) spelled SpellsItself-a ∙ spell-fronts (components way) (codes "a"))

unslashed-segment : (n : List ℕ) → IsSegment n → unslashed n ≡ n
unslashed-segment [] is = refl
unslashed-segment (b ∷ bs) is = ap (λ t. if t then bs else b ∷ bs) is.no_slash.0

-- after a push of a segment the text spells the components and the segment
pub pushed-segment : (way n : List ℕ) → way ≡ spell (components way) → IsSegment n
    → pushed way n ≡ spell (components way ++ name n ∷ [])
pushed-segment way n spelled is =
    ap₂ (λ xs ys. xs ++ ys) (with_separator-fronts way spelled) (unslashed-segment n is)
    ∙ sym (spell-fronts (components way) n)

-- ---- where a reference resolves

pub Resolves-between : (from to : Page) (cs : List Step) (n reference : List ℕ) → SpellThemselves from.path
    → SpellThemselves cs → IsSegment n → Leads (start_of from) (cs ++ name n ∷ []) (url_steps to)
    → reference ≡ target_of (spell (cs ++ name n ∷ [])) → Resolves from to reference
Resolves-between from to cs n reference proper steps is leads text base target from_is to_is none path has =
    let (place, there, onwards) = walk-append_some [] target (start_of from) (cs ++ name n ∷ []) (leads.everywhere [] ∙ to_is) in
    let one_up : walk base (up ∷ []) ≡ Some place =
    sym (walk-append [] (url_steps from) (up ∷ [])
    ∙ ap (option_and_then (λ place. walk place (up ∷ []))) from_is) ∙ there in
    let (ds, are, writes, same) = path_written-spell cs n steps is in
    ap (λ reference. map decoded (segments_of (resolved path reference))) text
    ∙ resolved-walk path (spell (cs ++ name n ∷ [])) base place target ds n has
    (Segments-walk (url_steps from) [] base (AreSegments-url_steps from proper) tt from_is)
    (without_last-up base place one_up) are writes (same place ∙ onwards) none

-- ---- the pages of a map

-- page number k
page_at-map : (pages : List RelativePath) (none : RelativePath) (k : ℕ) → k < length pages
    → page_at (map page_of pages) k ≡ page_of (get_or pages k none)
page_at-map pages none k within = get_or-map page_of pages k none _ within

-- it has a file name
pub named-at : (pages : List RelativePath) (none : RelativePath) (k : ℕ) → AreNamedPages (map page_of pages)
    → k < length (map page_of pages) → last_name (path_components (get_or pages k none)) ≢ None
named-at pages none k named within =
    let inside : k < length pages = rw (length-map pages page_of) at within in
    λ nameless. named k within (ap (λ page. last_name page.path) (page_at-map pages none k inside) ∙ nameless)

-- if `file_name` of the next page is some name, the page has a file name
pub named-next : (pages : List RelativePath) (none : RelativePath) (k : ℕ) (found : Option (Bor (List ℕ)))
    (lacks : Bool) → k < length pages
    → ((j : ℕ) → j < k → last_name (page_at (map page_of pages) j).path ≢ None)
    → option_copied found ≡ last_name (path_components (get_or pages k none)) → is_some found ≡ not lacks
    → lacks ≡ false → (j : ℕ) → j < k + 1 → last_name (page_at (map page_of pages) j).path ≢ None
named-next pages none k None lacks within before is some has = absurd (true≢false (sym (ap not has) ∙ sym some))
named-next pages none k (Some n) lacks within before is some has =
    below_more _ _ before
    (λ nameless. none-some n.now
    (sym nameless ∙ ap (λ page. last_name page.path) (page_at-map pages none k within) ∙ sym is))

-- the first page for which `file_name` is `None`
pub IsFirstNamelessPage-here : (pages : List RelativePath) (none : RelativePath) (k : ℕ) (found : Option (Bor (List ℕ)))
    (lacks : Bool) → k < length pages
    → ((j : ℕ) → j < k → last_name (page_at (map page_of pages) j).path ≢ None)
    → option_copied found ≡ last_name (path_components (get_or pages k none)) → is_some found ≡ not lacks → lacks ≡ true
    → IsFirstNamelessPage (map page_of pages) k
IsFirstNamelessPage-here pages none k (Some n) lacks within before is some has = absurd (true≢false (some ∙ ap not has))
IsFirstNamelessPage-here pages none k None lacks within before is some has = record {
  within = rw (length-map pages page_of) within;
  nameless = ap (λ page. last_name page.path) (page_at-map pages none k within) ∙ sym is;
  first = before;
}

-- the index after the next page is inserted
pub Indexes-next : (pages : List RelativePath) (none : RelativePath) (k : ℕ) (old new : PlaceIndex) → k < length pages
    → ((paths : List (List Step)) → Indexes paths old → length paths ≡ k
    → Indexes (paths ++ path_components (get_or pages k none) ∷ []) new)
    → Indexes (take k (paths_of (map page_of pages))) old → Indexes (take (k + 1) (paths_of (map page_of pages))) new
Indexes-next pages none k old new l inserted index =
    let paths = paths_of (map page_of pages) in
    let same : paths ≡ map path_components pages = map-map (λ page. page.path) page_of pages in
    let within : k < length paths = rw (same, length-map pages path_components) l in
    let page : get_or paths k [] ≡ path_components (get_or pages k none) =
    ap (λ paths. get_or paths k []) same ∙ get_or-map path_components pages k none [] l in
    rw (take_more paths k [] within, page)
    (inserted (take k paths) index (length-take-le k paths (omega (arith, within))))

-- ---- pages with plain names

-- if the next page's names are plain, so are those of the pages up to it
pub plain-next : (pages : List RelativePath) (none : RelativePath) (k : ℕ) → k < length pages
    → ((j : ℕ) → j < k → IsPlainPage (page_at (map page_of pages) j))
    → All (IfName IsPlainName) (path_components (get_or pages k none))
    → (j : ℕ) → j < k + 1 → IsPlainPage (page_at (map page_of pages) j)
plain-next pages none k within before plain = below_more _ _ before (rw (page_at-map pages none k within) plain)

-- the first page with a name that isn't plain
pub IsFirstOtherPage-here : (pages : List RelativePath) (none : RelativePath) (k : ℕ) → k < length pages
    → ((j : ℕ) → j < k → IsPlainPage (page_at (map page_of pages) j))
    → (¬ All (IfName IsPlainName) (path_components (get_or pages k none)))
    → IsFirstOtherPage (map page_of pages) k
IsFirstOtherPage-here pages none k within before other = record {
  within = rw (length-map pages page_of) within;
  other = λ plain. other (rw (page_at-map pages none k within) at plain);
  first = before;
}

-- a list of pages has one such page
pub IsFirstOtherPage-only : (pages : List Page) (k j : ℕ) → IsFirstOtherPage pages k → IsFirstOtherPage pages j → k ≡ j
IsFirstOtherPage-only pages k j one other = elim (cases_lt k j) [
  | inl before ↦ absurd (one.other (other.first k before))
  | inr past ↦ elim (cases_lt j k) [
    | inl after ↦ absurd (other.other (one.first j after))
    | inr most ↦ omega (arith, past, most)
  ]
]
