-- What the actions of a plan do to a whole tree, from what is known of the actions.
use Rattle.std.proofs.Common.{All, AllPairs, ◌≡◌, ◌≢◌, ℕ, ◌<◌, true, List, [], ◌∷◌, Option, Some, None, IfSome, is_some, String, Global, length, map, get_or, string_bytes, refl, sym, ap, subst, ◌∙◌, arith}
use Rattle.std.specs.List.{AllZip}
use Rattle.std.proofs.lemmas.Bool.{false≢true}
use Rattle.std.proofs.lemmas.List.{get_or-map, length-map}
use Rattle.std.proofs.lemmas.List.Elements.{All-head, All-tail}
use Rattle.std.proofs.lemmas.Simd.{map-map}
use Rattle.std.proofs.lemmas.Slice.Zip.{AllZip-long}
use Rattle.relative_path.specs.Steps.{Step, name, components}
use Rattle.relative_path.specs.Normalizing.{IsNormalTextOf}
use Rattle.relative_path.specs.Walk.{IsSame}
use Rattle.relative_path.proofs.ForCallers.{IsSame-sym, IsSame-trans}
use Rattle.relative_path_links.specs.Site.{KeepTheirLinks}
use Rattle.relative_path_links.specs.declared.target.Target.{Target}
use Rattle.relative_path_links.specs.declared.site.MovedSitePage.{MovedSitePage}
use Rattle.relative_path_links.specs.declared.site.SitePage.{SitePage}
use Rattle.relative_path_moves.specs.Moves.{Move, AreApart}
use Rattle.relative_path_places.specs.PlaceIndex.{path_at}
use Rattle.relative_path_moves.specs.TreeMoves.{AtTreePath}
use Rattle.relative_path_moves.proofs.ForCallers.{IsTreePath-only}
use Rattle.relmove_checks.specs.declared.entry.Entry.{Entry}
use Rattle.relmove_checks.specs.declared.name_rule.NameRule.{NameRule}
use Rattle.relmove_checks.specs.Moves.{EachMove}
use Rattle.relmove_checks.specs.Plan.{AreAllowed}
use Rattle.relmove_checks.specs.Trees.{AreAfter, entry_paths}
use Rattle.relmove_checks.proofs.ForCallers.{AllZip-at}
use Rattle.relmove_actions.specs.declared.actions.Actions.{Actions}
use Rattle.relmove_steps.specs.StagingNames.{AreFreeNames}
use Rattle.relmove_steps.specs.NewFiles.{HaveOwnFiles, LeaveOnce}
use Rattle.relmove_steps.specs.Pages.{changed_paths, page_paths}
use Rattle.relmove_steps.specs.Actions.{AboveFirst, BelowFirst, DoesMove, LosesNothing, OnlyTheseLeave, RemovesAt, ReplacesChanged, ReplacesPage, ReplacesPages, WritesPages, staged_names, pages_written, rename_text, action_texts}
use Rattle.relmove_plan.specs.WholeTrees.{IsWhole, LeadsToFile}
use Rattle.relmove_plan.proofs.KnownRunsLemmas.{IsKnownRun, IsReplaced}
use Rattle.relmove_plan.proofs.LeavingLemmas.{All-changed_pages, All-changed_paths, AreDistinct-changed_paths}
use Rattle.relmove_steps.proofs.ForCallers.{components-free}

-- each entry has one path after the moves
pub AreAfter-only : (moves : List Move) (entries : List Entry) (one other : List (List ℕ)) → AreApart moves
    → AreAfter moves entries one → AreAfter moves entries other → one ≡ other
AreAfter-only moves [] [] [] apart are are_2 = refl
AreAfter-only moves [] [] (y ∷ other) apart are are_2 = absurd are_2
AreAfter-only moves [] (x ∷ one) other apart are are_2 = absurd are
AreAfter-only moves (entry ∷ entries) [] other apart are are_2 = absurd are
AreAfter-only moves (entry ∷ entries) (x ∷ one) [] apart are are_2 = absurd are_2
AreAfter-only moves (entry ∷ entries) (x ∷ one) (y ∷ other) apart are are_2 =
    let (target, target_is, normal) = are.0 in
    let (target_2, target_is_2, normal_2) = are_2.0 in
    let same : target_2 ≡ target =
    IsTreePath-only moves (components entry.path) target target_2 apart target_is target_is_2 in
    let normal_3 : IsNormalTextOf target y = subst (λ target. IsNormalTextOf target y) same normal_2 in
    ap (λ x. x ∷ one) (sym (normal.only y normal_3.normal_text normal_3.same))
    ∙ ap (λ rest. y ∷ rest) (AreAfter-only moves entries one other apart are.1 are_2.1)

-- what is known of a plan for a whole tree, and of its actions
pub record IsPlanned (entries : List Entry) (pages : List SitePage) (news : List MovedSitePage)
    (finds : List ℕ → List Target → Type 0) (root : Option (List Step)) (moves : List Move) (rule : NameRule)
    (actions : Actions) : Type 0 where
  pub whole : IsWhole entries (page_paths pages)
  pub accepted : AreAllowed entries moves rule
  pub links : (links : List Move) × KeepTheirLinks finds root moves links pages news
  pub staged : BelowFirst (map (λ step. string_bytes step.from) actions.staged.items)
  pub placed : AboveFirst (map (λ step. string_bytes step.to) actions.placed.items)
  pub once : LeaveOnce (action_texts actions)
  pub kept : LosesNothing (action_texts actions)
  pub moved : EachMove (DoesMove (changed_paths pages news) (action_texts actions)) moves
  pub replaced : ReplacesPages pages news (action_texts actions)
  pub only : OnlyTheseLeave moves (changed_paths pages news) (action_texts actions)
  pub names : AreFreeNames (entry_paths entries) (staged_names (action_texts actions))
  pub files : HaveOwnFiles (entry_paths entries) (changed_paths pages news) (action_texts actions)
  pub removed : All (RemovesAt (action_texts actions)) (changed_paths pages news)
  pub texts : WritesPages (changed_paths pages news) (action_texts actions)

module _ {entries : List Entry} {pages : List SitePage} {news : List MovedSitePage}
    {finds : List ℕ → List Target → Type 0} {root : Option (List Step)} {moves : List Move} {rule : NameRule}
    {actions : Actions} (planned : IsPlanned entries pages news finds root moves rule actions)
  where
    -- a page is a file of the tree, the moves take it to the path of its new page, and it is replaced if it changes
    abbrev IsKnownPage : SitePage → MovedSitePage → Type 0
    IsKnownPage page new =
        LeadsToFile entries (components page.path.now)
        × AtTreePath moves (components page.path.now) (λ now. IsNormalTextOf now new.path)
        × ReplacesChanged (action_texts actions) page new

    known_pages : AllZip IsKnownPage pages news
    known_pages = by pages news planned.whole.files planned.links.1 planned.replaced
      where
        by : (pages : List SitePage) (news : List MovedSitePage) → All (LeadsToFile entries) (page_paths pages)
            → KeepTheirLinks finds root moves planned.links.0 pages news → ReplacesPages pages news (action_texts actions)
            → AllZip IsKnownPage pages news
        by [] [] files links replaced = tt
        by [] (new ∷ news) files links replaced = absurd links
        by (page ∷ pages) [] files links replaced = absurd links
        by (page ∷ pages) (new ∷ news) files links replaced =
            let (now, is, moved) = links.0 in (
              (
                All-head (LeadsToFile entries) (components page.path.now) (page_paths pages) files,
                (now, is, moved.0),
                replaced.0,
              ),
              by pages news
                  (All-tail (LeadsToFile entries) (components page.path.now) (page_paths pages) files) links.1 replaced.1,
            )

    -- a page that changes is a file of the tree too
    pub changed_files : All (LeadsToFile entries) (changed_paths pages news)
    changed_files = All-changed_paths (LeadsToFile entries) pages news planned.whole.files

    pub below_first : BelowFirst (map (λ step. step.0) (action_texts actions).staged)
    below_first =
        subst BelowFirst (sym (map-map (λ (step : List ℕ × List ℕ). step.0) rename_text actions.staged.items)) planned.staged

    pub single : All (λ staging. components staging ≡ name staging ∷ []) (staged_names (action_texts actions))
    single = components-free (entry_paths entries) (staged_names (action_texts actions)) planned.names

    pub above_first : AboveFirst (map (λ step. step.1) (action_texts actions).placed)
    above_first =
        subst AboveFirst (sym (map-map (λ (step : List ℕ × List ℕ). step.1) rename_text actions.placed.items)) planned.placed

    -- no page has two new texts
    pub one_text : AllPairs (λ one other. one.0 ≢ other.0) (action_texts actions).texts
    one_text = λ i j d less within same.
        let one = normal_at i d (omega (arith, less, within)) in
        let two = normal_at j d within in
        (AreDistinct-changed_paths pages news planned.whole.pages_distinct j (omega (arith, within, long))).first i less
        (IsSame-trans two.same (IsSame-sym (subst (λ text. IsSame (path_at paths i) (components text)) same one.same)))
      where
        paths : List (List Step)
        paths = changed_paths pages news

        texts : List (List ℕ × List ℕ × List ℕ)
        texts = (action_texts actions).texts

        long : length texts ≡ length paths
        long =
            sym (length-map texts (λ (new : List ℕ × List ℕ × List ℕ). new.0))
            ∙ AllZip-long IsNormalTextOf paths (pages_written (action_texts actions)) planned.texts

        normal_at : (i : ℕ) (d : List ℕ × List ℕ × List ℕ) → i < length texts
            → IsNormalTextOf (path_at paths i) (get_or texts i d).0
        normal_at i d within =
            subst (IsNormalTextOf (path_at paths i)) (get_or-map (λ (new : List ℕ × List ℕ × List ℕ). new.0) texts i d [] within)
            (AllZip-at IsNormalTextOf paths (pages_written (action_texts actions)) i [] [] planned.texts (omega (arith, within, long)))

    -- each page that changes is replaced
    pub are_replaced : All (IsReplaced moves (action_texts actions)) (changed_paths pages news)
    are_replaced =
        All-changed_pages (IsReplaced moves (action_texts actions)) IsKnownPage pages news
        (λ page new changes known. by page new new.text changes known.1 known.2) known_pages
      where
        by : (page : SitePage) (new : MovedSitePage) (text : Option (String Global)) → is_some text ≡ true
            → AtTreePath moves (components page.path.now) (λ now. IsNormalTextOf now new.path)
            → IfSome text (λ text. ReplacesPage (action_texts actions) page new (string_bytes text))
            → IsReplaced moves (action_texts actions) (components page.path.now)
        by page new None changes goes replaces = absurd (false≢true changes)
        by page new (Some text) changes goes replaces = record {
          old = replaces.old;
          old_of = replaces.old_of;
          file = replaces.file;
          text = string_bytes text;
          written = replaces.written;
          to = new.path;
          carries = replaces.carries;
          goes = goes;
        }

    abbrev pub known : IsKnownRun entries (page_paths pages) (changed_paths pages news) moves rule (action_texts actions)
    known = record {
      whole = planned.whole;
      files = changed_files;
      accepted = planned.accepted;
      below_first = below_first;
      above_first = above_first;
      once = planned.once;
      nothing_lost = planned.kept;
      only = planned.only;
      names = planned.names;
      single = single;
      own = planned.files;
      moved = planned.moved;
      removed = planned.removed;
      replaced = are_replaced;
      one_text = one_text;
    }
