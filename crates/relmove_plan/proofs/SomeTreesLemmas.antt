-- The trees of which the contract of `make_plan` speaks exist: one that agrees with entries and pages, and one with the new texts.
use Rattle.std.proofs.Common.{All, AllPairs, Bool, true, false, true≢false, if◌then◌else◌, ◌≡◌, ◌≢◌, ◌⊎◌, ℕ, zero, suc, ◌<◌, List, [], ◌∷◌, ◌++◌, Contains, Option, Some, None, IfSome, IsSome, is_some, String, Global, length, map, get_or, inl, inr, refl, string_bytes, sym, ap, subst, ◌∙◌, arith}
use Rattle.std.proofs.lemmas.List.Elements.{All-cons, All-contains, All-head, All-nil, All-tail}
use Rattle.std.proofs.lemmas.List.{get_or-map, length-map}
use Rattle.std.specs.List.{AllZip, Any}
use Rattle.relative_path.proofs.ForCallers.{walk-names}
use Rattle.relative_path.specs.Steps.{Step, components, name}
use Rattle.relative_path.specs.Walk.{place_of}
use Rattle.relative_path_links.specs.declared.site.MovedSitePage.{MovedSitePage}
use Rattle.relative_path_links.specs.declared.site.SitePage.{SitePage}
use Rattle.relative_path_moves.specs.Moves.{Move}
use Rattle.relative_path_places.specs.PlaceIndex.{IsNoneAt, path_at}
use Rattle.relmove_checks.specs.Trees.{AreDistinct, entry_paths, is_directory}
use Rattle.relmove_checks.specs.declared.entry.Entry.{Entry}
use Rattle.relmove_plan.proofs.LeavingLemmas.{All-changed_paths}
use Rattle.relmove_plan.proofs.SourcesLemmas.{IsSource, IsSource-leaves}
use Rattle.relmove_plan.proofs.WholeTreesLemmas.{HasDirectoryAt-above, IsAt-one, IsAt-some, IsNoneAt-entry, IsSame-one_place, not_empty, some_of}
use Rattle.relmove_plan.specs.KnownTrees.{AgreesWith, HasTexts}
use Rattle.relmove_plan.specs.WholeTrees.{HasDirectoryAt, IsAt, IsWhole, LeadsToFile}
use Rattle.relmove_steps.proofs.ForCallers.{components-free}
use Rattle.relmove_steps.specs.Actions.{ActionTexts, of_text, staged_names}
use Rattle.relmove_steps.specs.NewFiles.{HaveOwnFiles}
use Rattle.relmove_steps.specs.Pages.{changed_paths, page_paths}
use Rattle.relmove_steps.specs.StagingNames.{AreFreeNames}
use Rattle.relmove_trees.proofs.FileTreesLemmas.{place_or, with_node-at, with_node-elsewhere}
use Rattle.relmove_trees.specs.FileTrees.{Directory, File, IsWholeTree, Node, Place, Tree, names_of, with_node}

-- ---- what is at a place

-- the components lead to the place, or they don't
leads_or : (cs : List Step) (place : Place) → (place_of cs ≡ Some place) ⊎ (place_of cs ≢ Some place)
leads_or cs place = by (place_of cs)
  where
    by : (o : Option Place) → (o ≡ Some place) ⊎ (o ≢ Some place)
    by None = inr (λ none. absurd (let e = none in cc))
    by (Some other) = elim (place_or other place) [
      | inl same ↦ inl (ap Some same)
      | inr differ ↦ inr (λ same. differ (some_of same))
    ]

-- an entry is at the place, or none is
entry_or : (entries : List Entry) (place : Place)
    → ((b : Bool) × Any (IsAt b place) entries) ⊎ ((b : Bool) → ¬ Any (IsAt b place) entries)
entry_or [] place = inr (λ b at. absurd (let w : at.0 < 0 = at.2 in omega (arith, w)))
entry_or (entry ∷ entries) place = by (leads_or (components entry.path) place) (entry_or entries place)
  where
    by : (place_of (components entry.path) ≡ Some place) ⊎ (place_of (components entry.path) ≢ Some place)
        → ((b : Bool) × Any (IsAt b place) entries) ⊎ ((b : Bool) → ¬ Any (IsAt b place) entries)
        → ((b : Bool) × Any (IsAt b place) (entry ∷ entries)) ⊎ ((b : Bool) → ¬ Any (IsAt b place) (entry ∷ entries))
    by (inl leads) rest =
        inl (is_directory entry.kind, (0, entry, omega arith, refl, record { kind = refl; leads = leads }))
    by (inr differ) (inl (b, (k, other, within, is, at))) = inl (b, (suc k, other, omega (arith, within), is, at))
    by (inr differ) (inr none) = inr neither
      where
        neither : (b : Bool) → ¬ Any (IsAt b place) (entry ∷ entries)
        neither b (zero, other, within, is, at) = differ (ap (λ (entry : Entry). place_of (components entry.path)) is ∙ at.leads)
        neither b (suc k, other, within, is, at) = none b (k, other, omega (arith, within), is, at)

-- the page is at the place
abbrev IsPageAt : Place → SitePage → Type 0
IsPageAt place page = place_of (components page.path.now) ≡ Some place

-- no two of the pages are at one place
abbrev HaveOwnPlaces : List SitePage → Type 0
HaveOwnPlaces = AllPairs (λ one other. (place : Place) → IsPageAt place one → ¬ IsPageAt place other)

HaveOwnPlaces-rest : (page : SitePage) (pages : List SitePage) → HaveOwnPlaces (page ∷ pages) → HaveOwnPlaces pages
HaveOwnPlaces-rest page pages own = λ i j d less within. own (suc i) (suc j) d (omega (arith, less)) (omega (arith, within))

-- the path of a page
path_at-page : (pages : List SitePage) (k : ℕ) (page : SitePage) → k < length pages
    → path_at (page_paths pages) k ≡ components (get_or pages k page).path.now
path_at-page pages k page within = get_or-map (λ (page : SitePage). components page.path.now) pages k page [] within

page_within : (pages : List SitePage) (k : ℕ) → k < length pages → k < length (page_paths pages)
page_within pages k within = rw (length-map pages (λ (page : SitePage). components page.path.now)) within

HaveOwnPlaces-distinct : (pages : List SitePage) → AreDistinct (page_paths pages) → HaveOwnPlaces pages
HaveOwnPlaces-distinct pages distinct = λ i j d less within place one other.
    (distinct j (page_within pages j within)).first i less
    (rw (path_at-page pages j d within, path_at-page pages i d (omega (arith, less, within)))
    (IsSame-one_place place other one))

-- if the page is at the place, it has this text
abbrev HasTextAt : Place → List ℕ → SitePage → Type 0
HasTextAt place text page = IsPageAt place page → text ≡ page.text.now

text_some : (place : Place) (pages : List SitePage) → HaveOwnPlaces pages → (text : List ℕ) × All (HasTextAt place text) pages
text_some place [] own = ([], All-nil (HasTextAt place []))
text_some place (page ∷ pages) own =
    by (leads_or (components page.path.now) place) (text_some place pages (HaveOwnPlaces-rest page pages own))
  where
    by : IsPageAt place page ⊎ (¬ IsPageAt place page) → (text : List ℕ) × All (HasTextAt place text) pages
        → (text : List ℕ) × All (HasTextAt place text) (page ∷ pages)
    by (inl leads) rest = (
      page.text.now,
      All-cons (HasTextAt place page.text.now) page pages (λ _. refl)
          (λ k d within leads_2. absurd (own 0 (suc k) d (omega arith) (omega (arith, within)) place leads leads_2)),
    )
    by (inr differ) (text, each) = (
      text,
      All-cons (HasTextAt place text) page pages (λ leads. absurd (differ leads)) each,
    )

-- ---- a tree that agrees

-- with this at the place, a tree has entries and pages there, and nothing else
record IsKnownAt (entries : List Entry) (pages : List SitePage) (place : Place) (node : Option Node) : Type 0 where
  pub directory : (place ≡ []) ⊎ HasDirectoryAt entries place → node ≡ Some Directory
  pub file : Any (IsAt false place) entries → IsSome node
  pub texts : All (λ page. IsPageAt place page → node ≡ Some (File page.text.now)) pages
  pub only : IsSome node → (place ≡ []) ⊎ ((b : Bool) × Any (IsAt b place) entries)

module _ (entries : List Entry) (pages : List SitePage) (whole : IsWhole entries (page_paths pages)) where
  -- a page is at a file
  page_at : (place : Place) → All (λ page. IsPageAt place page → Any (IsAt false place) entries) pages
  page_at place = λ k page within leads.
      let file : LeadsToFile entries (components (get_or pages k page).path.now) =
      subst (LeadsToFile entries) (path_at-page pages k page within) (whole.files k [] (page_within pages k within)) in
      subst (λ place. Any (IsAt false place) entries) (some_of (sym file.leads ∙ leads)) file.file

  -- no directory is where a file is
  not_both : (place : Place) → HasDirectoryAt entries place → Any (IsAt false place) entries → ⊥
  not_both place directory file = true≢false (IsAt-one entries (page_paths pages) whole true false place directory file)

  -- at each place is something, or nothing, that agrees
  known_at : (place : Place) → (node : Option Node) × IsKnownAt entries pages place node
  known_at place = by (place_or place []) (entry_or entries place)
    where
      by : (place ≡ []) ⊎ (place ≢ [])
          → ((b : Bool) × Any (IsAt b place) entries) ⊎ ((b : Bool) → ¬ Any (IsAt b place) entries)
          → (node : Option Node) × IsKnownAt entries pages place node
      by (inl root) entry = (
        Some Directory,
        record {
          directory = λ _. refl;
          file = λ _. refl;
          texts = λ k page within leads.
              absurd (IsAt-some entries (page_paths pages) whole false place (page_at place k page within leads) root);
          only = λ _. inl root;
        },
      )
      by (inr below) (inl (true, at)) = (
        Some Directory,
        record {
          directory = λ _. refl;
          file = λ _. refl;
          texts = λ k page within leads. absurd (not_both place at (page_at place k page within leads));
          only = λ _. inr (true, at);
        },
      )
      by (inr below) (inl (false, at)) =
          let (text, each) = text_some place pages (HaveOwnPlaces-distinct pages whole.pages_distinct) in (
            Some (File text),
            record {
              directory = λ is. elim is [
                | inl root ↦ absurd (below root)
                | inr directory ↦ absurd (not_both place directory at)
              ];
              file = λ _. refl;
              texts = λ k page within leads. ap (λ text. Some (File text)) (each k page within leads);
              only = λ _. inr (false, at);
            },
          )
      by (inr below) (inr none) = (
        None,
        record {
          directory = λ is. elim is [
            | inl root ↦ absurd (below root)
            | inr directory ↦ absurd (none true directory)
          ];
          file = λ at. absurd (none false at);
          texts = λ k page within leads. absurd (none false (page_at place k page within leads));
          only = λ some. absurd (let s = some in cc);
        },
      )

  -- the tree of the entries and pages. A file or a symbolic link that is no page is an empty file
  abbrev known : Tree
  known = λ place. (known_at place).0

  -- what is above something is a directory
  known-whole : IsWholeTree known
  known-whole = record { root = (known_at []).1.directory (inl refl); above = above }
    where
      above : (top : Place) (n : List ℕ) → IsSome (known (top ++ n ∷ [])) → known top ≡ Some Directory
      above top n some = by (place_or top []) ((known_at (top ++ n ∷ [])).1.only some)
        where
          by : (top ≡ []) ⊎ (top ≢ []) → (top ++ n ∷ [] ≡ []) ⊎ ((b : Bool) × Any (IsAt b (top ++ n ∷ [])) entries)
              → known top ≡ Some Directory
          by root (inl none) = absurd (not_empty top n [] none)
          by (inl root) (inr entry) = (known_at top).1.directory (inl root)
          by (inr below) (inr (b, at)) =
              (known_at top).1.directory (inr (HasDirectoryAt-above entries (page_paths pages) whole b top n [] below at))

  -- nothing is where no entry is
  known-none : (place : Place) → place ≢ [] → ((b : Bool) → ¬ Any (IsAt b place) entries) → known place ≡ None
  known-none place below none = by (known place) refl
    where
      by : (node : Option Node) → known place ≡ node → known place ≡ None
      by None is = is
      by (Some node) is = elim ((known_at place).1.only (ap is_some is)) [
        | inl root ↦ absurd (below root)
        | inr (b, at) ↦ absurd (none b at)
      ]

-- for whole entries, free staging names and own files of new texts, a tree agrees, whatever the moves are
pub AgreesWith-some : (entries : List Entry) (pages : List SitePage) (news : List MovedSitePage) (moves : List Move)
    (actions : ActionTexts) → IsWhole entries (page_paths pages) → AreFreeNames (entry_paths entries) (staged_names actions)
    → HaveOwnFiles (entry_paths entries) (changed_paths pages news) actions
    → (tree : Tree) × AgreesWith entries pages moves actions tree
AgreesWith-some entries pages news moves actions whole names files = (
  known entries pages whole,
  record {
    whole = known-whole entries pages whole;
    directories = λ place at. (at_place place).directory (inr at);
    files = λ place at. (at_place place).file at;
    texts = λ k page within place leads. (at_place place).texts k page within leads;
    only = λ place some. elim ((at_place place).only some) [
      | inl root ↦ inl root
      | inr entry ↦ inr (inl entry)
    ];
    staging = no_staging;
    new_files = no_new;
  },
)
  where
    at_place : (place : Place) → IsKnownAt entries pages place (known entries pages whole place)
    at_place place = (known_at entries pages whole place).1

    no_staging : (staging : List ℕ) → Contains (staged_names actions) staging → known entries pages whole (staging ∷ []) ≡ None
    no_staging staging has =
        let one : components staging ≡ name staging ∷ [] =
        All-contains (λ (staging : List ℕ). components staging ≡ name staging ∷ []) (staged_names actions) staging
        (components-free (entry_paths entries) (staged_names actions) names) has in
        known-none entries pages whole (staging ∷ []) (not_empty [] staging [])
        (λ b. IsNoneAt-entry entries (components staging) b (staging ∷ [])
        (All-contains (λ (staging : List ℕ). IsNoneAt (entry_paths entries) (components staging)) (staged_names actions) staging
        names.unused has) (ap place_of one))

    no_new : (new : List ℕ × List ℕ × List ℕ) → Contains actions.texts new → known entries pages whole (names_of new.1) ≡ None
    no_new new has =
        let file : IsSource entries [] (changed_paths pages news) (staged_names actions) new.1 =
        IsSource-leaves entries (page_paths pages) whole [] (changed_paths pages news)
        (All-changed_paths (LeadsToFile entries) pages news whole.files)
        (λ k within. absurd (let w : k < 0 = within in omega (arith, w))) actions files new.1 (of_text new.0 new.2 has) in
        ap (known entries pages whole) file.named
        ∙ known-none entries pages whole file.place file.some
        (λ b. IsNoneAt-entry entries (components new.1) b file.place
        (All-contains (λ (text : List ℕ × List ℕ × List ℕ). IsNoneAt (entry_paths entries) (components text.1))
        actions.texts new files.unused has) file.leads)

-- ---- a tree with the new texts

-- if the page has a new text, the tree has it
abbrev HasText : Tree → SitePage → Option (String Global) → Type 0
HasText now page new = IfSome new (λ text. (place : Place) → IsPageAt place page → now place ≡ Some (File (string_bytes text)))

-- another node at a place where no page is changes no page's text
still : (at : Place) (other : Option Node) (now : Tree) (pages : List SitePage) (news : List MovedSitePage)
    → All (λ page. ¬ IsPageAt at page) pages → AllZip (λ page new. HasText now page new.text) pages news
    → AllZip (λ page new. HasText (with_node at other now) page new.text) pages news
still at other now [] [] others has = tt
still at other now [] (new ∷ news) others has = absurd has
still at other now (page ∷ pages) [] others has = absurd has
still at other now (page ∷ pages) (new ∷ news) others has = (
  by new.text has.0,
  still at other now pages news (All-tail (λ (page : SitePage). ¬ IsPageAt at page) page pages others) has.1,
)
  where
    by : (new : Option (String Global)) → HasText now page new → HasText (with_node at other now) page new
    by None has = tt
    by (Some text) has = λ place leads.
        with_node-elsewhere at other now place
        (λ same. All-head (λ (page : SitePage). ¬ IsPageAt at page) page pages others (leads ∙ ap Some same))
        ∙ has place leads

-- the new texts come into the tree one by one, the last one first
texts_some : (pages : List SitePage) (news : List MovedSitePage) (tree : Tree) → HaveOwnPlaces pages
    → length news ≡ length pages → (now : Tree) × HasTexts pages news tree now
texts_some [] [] tree own long = (tree, record { texts = tt; others = λ place none. refl })
texts_some [] (new ∷ news) tree own long = absurd (omega (arith, long))
texts_some (page ∷ pages) [] tree own long = absurd (omega (arith, long))
texts_some (page ∷ pages) (new ∷ news) tree own long =
    let (now, rest) = texts_some pages news tree (HaveOwnPlaces-rest page pages own) (omega (arith, long)) in
    let (end, text, texts, others) = by now rest new.text (place_of (components page.path.now)) refl in
    (end, record { texts = (text, texts); others = others })
  where
    by : (now : Tree) → HasTexts pages news tree now → (new : Option (String Global)) (at : Option Place)
        → place_of (components page.path.now) ≡ at
        → (end : Tree) × HasText end page new × AllZip (λ page new. HasText end page new.text) pages news
        × ((place : Place)
        → IsNoneAt (if is_some new then components page.path.now ∷ changed_paths pages news else changed_paths pages news)
        (map name place)
        → end place ≡ tree place)
    by now rest None at is = (now, tt, rest.texts, rest.others)
    by now rest (Some text) None is = (
      now,
      λ place leads. absurd (let e = sym is ∙ leads in cc),
      rest.texts,
      λ place none. rest.others place (λ k within. none (suc k) (omega (arith, within))),
    )
    by now rest (Some text) (Some at) is = (
      with_node at (Some (File (string_bytes text))) now,
      λ place leads.
          ap (with_node at (Some (File (string_bytes text))) now) (some_of (sym leads ∙ is))
          ∙ with_node-at at (Some (File (string_bytes text))) now,
      still at (Some (File (string_bytes text))) now pages news
          (λ k d within leads. own 0 (suc k) d (omega arith) (omega (arith, within)) at is leads) rest.texts,
      λ place none.
          with_node-elsewhere at (Some (File (string_bytes text))) now place
          (λ same. none 0 (omega arith) (IsSame-one_place place (walk-names [] place) (is ∙ ap Some (sym same))))
          ∙ rest.others place (λ k within. none (suc k) (omega (arith, within))),
    )

-- for pages at places of their own, and as many new pages, some tree has the new texts
pub HasTexts-some : (pages : List SitePage) (news : List MovedSitePage) (tree : Tree) → AreDistinct (page_paths pages)
    → length news ≡ length pages → (now : Tree) × HasTexts pages news tree now
HasTexts-some pages news tree distinct long = texts_some pages news tree (HaveOwnPlaces-distinct pages distinct) long
