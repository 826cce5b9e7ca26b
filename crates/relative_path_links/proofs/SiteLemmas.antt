-- Links read again after the moves, and the same page by other lists for the same directories.
use Rattle.std.proofs.Common.{◌≡◌, ◌⊎◌, ℕ, ◌<◌, ◌+◌, true, false, List, [], ◌∷◌, ◌++◌, length, get_or, drop, Option, None, Some, String, IsNone, inl, inr, refl, sym, ap, ◌∙◌, subst, append-nil, append_assoc, string_bytes, true≢false}
use Rattle.std.proofs.Math.Seq.{drop-append_seam}
use Rattle.std.proofs.lemmas.List.{drop_more}
use Rattle.std.proofs.lemmas.List.Elements.{All-from_recursion, recursion_from_All}
use Rattle.std.specs.List.{AllByRecursion, AllZip}
use Rattle.std.specs.declared.alloc.Global.{Global}
use Rattle.relative_path.specs.Steps.{Step, components}
use Rattle.relative_path.specs.Walk.{IsSame, place_of}
use Rattle.relative_path.specs.Normalizing.{IsNormalTextOf}
use Rattle.relative_path.specs.Relating.{Leads}
use Rattle.relative_path.proofs.ForCallers.{IsSame-refl, IsSame-sym, IsSame-trans, IsSame-append_left, IsSame-append_right, IsReachable-same, IsShortestText-same, Leads-same}
use Rattle.relative_path_places.specs.Places.{directory}
use Rattle.relative_path_places.proofs.ForCallers.{IsNormalTextOf-same}
use Rattle.relative_path_moves.specs.declared.tree_moves.PageMove.{PageMove}
use Rattle.relative_path_moves.specs.Moves.{Move, BelowTop}
use Rattle.relative_path_moves.specs.TreeMoves.{IsLeftInPlace, AtTreePath}
use Rattle.relative_path_moves.proofs.ForCallers.{AtTreePath-same}
use Rattle.target_paths.specs.declared.target.TargetSyntax.{TargetSyntax}
use Rattle.target_paths.specs.declared.target.WhyUnknown.{WhyUnknown}
use Rattle.target_paths.specs.Reading.{Meaning, not_relative, path_before, unknown}
use Rattle.target_paths.specs.Writing.{path_written}
use Rattle.relative_path_links.specs.declared.edit.Change.{Change}
use Rattle.relative_path_links.specs.declared.edit.Change.TheVariants.{Kept, New, Left}
use Rattle.relative_path_links.specs.declared.edit.Edit.{Edit}
use Rattle.relative_path_links.specs.declared.edit.Unchanged.{Unchanged}
use Rattle.relative_path_links.specs.declared.edit.Unchanged.TheVariants.{AboveRoot, NoPath, OutsideSiteRoot, Nul, Unknown, WouldReadOtherwise}
use Rattle.relative_path_links.specs.declared.target.Target.{Target}
use Rattle.relative_path_links.specs.declared.site.MovedSitePage.{MovedSitePage}
use Rattle.relative_path_links.specs.declared.site.SitePage.{SitePage}
use Rattle.relative_path_links.specs.Targets.{target_text}
use Rattle.relative_path_links.specs.Edits.{targets_of, change_text, edit_text, with_edits, is_new, IsSettled}
use Rattle.relative_path_links.specs.Reading.{HasText}
use Rattle.relative_path_links.specs.SiteRoot.{Moving, PageMoving, page_moving, meaning_at, target_at, root_for, moving_by, moving_for}
use Rattle.relative_path_links.specs.Rewriter.{AtFile, StillLeads, AtLostFile, IsNewPath, IsMovedTarget, LeavesPath, ChangesPath, unknown_change, ChangesBy, HasFileBy, BecomesBy, Becomes}
use Rattle.relative_path_links.specs.Site.{ForMovedPage, LeadsOn, KeepsLinkBy, KeepsLinkOf, StaysInPlace, StayInPlace, IsRewritten, KeepsLinks, moved_to, AreRewritten, KeepTheirLinks}
use Rattle.relative_path_links.proofs.EditsLemmas.{with_edits-same}
use Rattle.relative_path_links.proofs.WrittenLemmas.{IsSame-written}

-- ---- where a file is, by another list for the same place

place_of-same : (f g : List Step) → IsSame f g → place_of g ≡ place_of f
place_of-same f g same = sym (same.everywhere [])

-- the directories lead to the same places
record HaveSame (m n : Moving) : Type 0 where
  moves : m.moves ≡ n.moves
  before : IsSame m.before n.before
  after : IsSame m.after n.after
  is_rooted : m.is_rooted ≡ n.is_rooted

module _ (m n : Moving) (same : HaveSame m n) where
  AtFile-same : (path : List ℕ) (P Q : List Step → Type 0) → ((t u : List Step) → IsSame t u → P t → Q u)
      → AtFile m path P → AtFile n path Q
  AtFile-same path P Q goes_over at =
      subst (λ moves. AtTreePath moves (n.before ++ components path) Q) same.moves
      (AtTreePath-same m.moves (m.before ++ components path) (n.before ++ components path) P Q
      (IsSame-append_right (components path) same.before) goes_over at)

  -- a list that leads from the one directory leads from the other
  leads_over : (cs t u : List Step) → IsSame t u → Leads m.after cs t → Leads n.after cs u
  leads_over cs t u to leads = Leads-same cs same.after to leads

  leads_back : (cs t u : List Step) → IsSame t u → Leads n.after cs u → Leads m.after cs t
  leads_back cs t u to leads = Leads-same cs (IsSame-sym same.after) (IsSame-sym to) leads

  StillLeads-same : (path : List ℕ) → StillLeads m path → StillLeads n path
  StillLeads-same path still = AtFile-same path _ _ (leads_over (components path)) still

  AtLostFile-same : (path : List ℕ) (P Q : List Step → Type 0) → ((t u : List Step) → IsSame t u → P t → Q u)
      → AtLostFile m path P → AtLostFile n path Q
  AtLostFile-same path P Q goes_over at = AtFile-same path _ _
      (λ t u to holds. (λ leads. holds.0 (leads_back (components path) t u to leads), goes_over t u to holds.1)) at

  BelowTop-same : (P Q : List Step → Type 0) → ((t u : List Step) → IsSame t u → P t → Q u) → (t u : List Step)
      → IsSame t u → BelowTop P t → BelowTop Q u
  BelowTop-same P Q goes_over t u to (below, holds) =
      (λ none. below (sym (place_of-same t u to) ∙ none), goes_over t u to holds)

  IsNewPath-same : (path new : List ℕ) → IsNewPath m path new → IsNewPath n path new
  IsNewPath-same path new is = record {
    way = is.way;
    shortest =
        AtLostFile-same path _ _
        (BelowTop-same _ _ (λ t u to way. IsShortestText-same same.after to way)) is.shortest;
    text = is.text;
  }

  IsMovedTarget-same : (syntax : TargetSyntax) (path tail text : List ℕ) → IsMovedTarget m syntax path tail text
      → IsMovedTarget n syntax path tail text
  IsMovedTarget-same syntax path tail text is = record {
    new = is.new;
    is_new = IsNewPath-same path is.new is.is_new;
    whole = subst (λ rooted. text ≡ target_at rooted is.new ++ tail) same.is_rooted is.whole;
    read =
        subst
        (λ rooted. meaning_at rooted syntax text ≡ path_before (path_written is.new) (length (target_at rooted is.new)))
        same.is_rooted is.read;
  }

  LeavesPath-same : (syntax : TargetSyntax) (path tail : List ℕ) (why : Unchanged) → LeavesPath m syntax path tail why
      → LeavesPath n syntax path tail why
  LeavesPath-same syntax path tail AboveRoot is =
      AtLostFile-same path _ _ (λ t u to above. place_of-same t u to ∙ above) is
  LeavesPath-same syntax path tail NoPath is = AtLostFile-same path _ _
      (BelowTop-same _ _ (λ t u to none reachable. none (IsReachable-same (IsSame-sym same.after) (IsSame-sym to) reachable))) is
  LeavesPath-same syntax path tail OutsideSiteRoot (rooted, way, shortest, climbs) = (
    sym same.is_rooted ∙ rooted,
    way,
    AtLostFile-same path _ _ (BelowTop-same _ _ (λ t u to is. IsShortestText-same same.after to is)) shortest,
    climbs,
  )
  LeavesPath-same syntax path tail Nul (new, is, nul) = (new, IsNewPath-same path new is, nul)
  LeavesPath-same syntax path tail (Unknown why) is = absurd is
  LeavesPath-same syntax path tail WouldReadOtherwise (text, is) = (text, IsMovedTarget-same syntax path tail text is)

  ChangesPath-same : (syntax : TargetSyntax) (path tail : List ℕ) (change : Change) → ChangesPath m syntax path tail change
      → ChangesPath n syntax path tail change
  ChangesPath-same syntax path tail Kept is = StillLeads-same path is
  ChangesPath-same syntax path tail (New text) is = IsMovedTarget-same syntax path tail (string_bytes text) is
  ChangesPath-same syntax path tail (Left why) is = LeavesPath-same syntax path tail why is

  ChangesBy-same : (syntax : TargetSyntax) (target : List ℕ) (change : Change) (means : Meaning)
      → ChangesBy m syntax target change means → ChangesBy n syntax target change means
  ChangesBy-same syntax target change not_relative is = is
  ChangesBy-same syntax target change (unknown why) is = is ∙ ap (λ moves. unknown_change moves why) same.moves
  ChangesBy-same syntax target change (path_before path tail_at) is =
      ChangesPath-same syntax path (drop tail_at target) change is

  HasFileBy-same : (file : Option (List ℕ)) (means : Meaning) → HasFileBy m file means → HasFileBy n file means
  HasFileBy-same file not_relative is = is
  HasFileBy-same file (unknown why) is = is
  HasFileBy-same None (path_before path tail_at) is = is
  HasFileBy-same (Some text) (path_before path tail_at) is =
      IsNormalTextOf-same (n.before ++ components path) text is.normal_text
      (IsSame-trans (IsSame-append_right (components path) (IsSame-sym same.before)) is.same)

  BecomesBy-same : (page : List ℕ) (edit : Edit) → BecomesBy m page edit → BecomesBy n page edit
  BecomesBy-same page edit is =
      let target = target_text page edit.target in
      let means = meaning_at m.is_rooted edit.target.syntax target in
      let as_n = ap (λ rooted. meaning_at rooted edit.target.syntax target) same.is_rooted in (
        subst (ChangesBy n edit.target.syntax target edit.change) as_n
            (ChangesBy-same edit.target.syntax target edit.change means is.0),
        subst (HasFileBy n edit.file) as_n (HasFileBy-same edit.file means is.1),
      )

-- the directories of a page lead to the same places, and the site has one root
pub record HaveSamePage (p q : PageMoving) : Type 0 where
  pub moves : p.moves ≡ q.moves
  pub before : IsSame p.before q.before
  pub after : IsSame p.after q.after
  pub root : p.root ≡ q.root

module _ (p q : PageMoving) (same : HaveSamePage p q) where
  HaveSame-by : (root : Option (List Step)) → HaveSame (moving_by p root) (moving_by q root)
  HaveSame-by None = record { moves = same.moves; before = same.before; after = same.after; is_rooted = refl }
  HaveSame-by (Some root) =
      record { moves = same.moves; before = IsSame-refl root; after = IsSame-refl root; is_rooted = refl }

  Becomes-same : (page : List ℕ) (edit : Edit) → Becomes p page edit → Becomes q page edit
  Becomes-same page edit is =
      let target = target_text page edit.target in
      let here = root_for p.root target in
      subst (λ root. BecomesBy (moving_by q (root_for root target)) page edit) same.root
      (BecomesBy-same (moving_by p here) (moving_by q here) (HaveSame-by here) page edit is)

  -- a page is rewritten alike for both
  pub IsRewritten-same : (finds : List ℕ → List Target → Type 0) (page : List ℕ) (edits : List Edit)
      (text : Option (String Global)) → IsRewritten finds p page edits text → IsRewritten finds q page edits text
  IsRewritten-same finds page edits text is = record {
    found = is.found;
    in_order = is.in_order;
    written = is.written;
    become = λ k d within. Becomes-same page (get_or is.written k d) (is.become k d within);
    new = is.new;
    settled = is.settled;
    cause = is.cause;
    text_is = is.text_is;
  }

-- ---- links, read again

module _ (m : Moving) (syntax : TargetSyntax) (target path : List ℕ) (tail_at : ℕ)
    (means : meaning_at m.is_rooted syntax target ≡ path_before path tail_at)
  where
    LeadsOn-kept : (text : List ℕ) → StillLeads m path → text ≡ target → LeadsOn m syntax target path tail_at text
    LeadsOn-kept text still stays =
        record { new = path; new_tail_at = tail_at; read = rw stays means; leads = still; tail = ap (drop tail_at) stays }

    LeadsOn-moved : (text : List ℕ) → IsMovedTarget m syntax path (drop tail_at target) text
        → LeadsOn m syntax target path tail_at text
    LeadsOn-moved text is =
        let (file, there, (lost, (below, shortest))) = is.is_new.shortest in
        record {
          new = path_written is.new;
          new_tail_at = length (target_at m.is_rooted is.new);
          read = is.read;
          leads = (
            file,
            there,
            IsSame-trans (IsSame-append_left m.after (IsSame-sym (rw is.is_new.text (IsSame-written path is.is_new.way shortest.spelled))))
                shortest.shortest.leads,
          );
          tail =
              ap (drop (length (target_at m.is_rooted is.new))) is.whole
              ∙ drop-append_seam (target_at m.is_rooted is.new) (drop tail_at target);
        }

-- ---- edits whose new texts are given up

-- what isn't known gets no new text
is_new-unknown : (moves : List Move) (why : WhyUnknown) → is_new (unknown_change moves why) ≡ false
is_new-unknown [] why = refl
is_new-unknown (move ∷ moves) why = refl

ChangesBy-given_up : (m : Moving) (syntax : TargetSyntax) (target : List ℕ) (change : Change) (means : Meaning)
    → is_new change ≡ true → ChangesBy m syntax target change means
    → ChangesBy m syntax target (Left WouldReadOtherwise) means
ChangesBy-given_up m syntax target change not_relative new is = absurd (true≢false (sym new ∙ ap is_new is))
ChangesBy-given_up m syntax target change (unknown why) new is =
    absurd (true≢false (sym new ∙ ap is_new is ∙ is_new-unknown m.moves why))
ChangesBy-given_up m syntax target Kept (path_before path tail_at) new is = absurd (true≢false (sym new))
ChangesBy-given_up m syntax target (New text) (path_before path tail_at) new is = (string_bytes text, is)
ChangesBy-given_up m syntax target (Left why) (path_before path tail_at) new is = absurd (true≢false (sym new))

BecomesBy-given_up : (m : Moving) (page : List ℕ) (edit : Edit) → BecomesBy m page edit → is_new edit.change ≡ true
    → BecomesBy m page (record { target = edit.target; change = Left WouldReadOtherwise; file = edit.file })
BecomesBy-given_up m page edit is new = (
  ChangesBy-given_up m edit.target.syntax (target_text page edit.target) edit.change
      (meaning_at m.is_rooted edit.target.syntax (target_text page edit.target)) new is.0,
  is.1,
)

Becomes-settled : (p : PageMoving) (page : List ℕ) (before after : Edit) → Becomes p page before → IsSettled before after
    → Becomes p page after
Becomes-settled p page before after is (inl same) = subst (Becomes p page) (sym same) is
Becomes-settled p page before after is (inr (new, given_up)) =
    subst (Becomes p page) (sym given_up)
    (BecomesBy-given_up (moving_for p (target_text page before.target)) page before is new)

become-settled : (p : PageMoving) (page : List ℕ) (written edits : List Edit) → AllByRecursion (Becomes p page) written
    → AllZip IsSettled written edits → AllByRecursion (Becomes p page) edits
become-settled p page [] [] all settled = tt
become-settled p page [] (edit ∷ edits) all settled = absurd settled
become-settled p page (before ∷ written) [] all settled = absurd settled
become-settled p page (before ∷ written) (after ∷ edits) (is, all) (settled, rest) =
    (Becomes-settled p page before after is settled, become-settled p page written edits all rest)

-- ---- links are kept

KeepsLinkOf-becomes : (m : Moving) (page : List ℕ) (edit : Edit) → BecomesBy m page edit → KeepsLinkOf m page edit
KeepsLinkOf-becomes m page edit is = (of (meaning_at m.is_rooted edit.target.syntax target) refl edit.change is.0, is.1) where
  target : List ℕ
  target = target_text page edit.target

  of : (means : Meaning) → meaning_at m.is_rooted edit.target.syntax target ≡ means → (change : Change)
      → ChangesBy m edit.target.syntax target change means → KeepsLinkBy m edit.target.syntax target change means
  of not_relative e change is = is
  of (unknown why) e change is = report m.moves is where
    report : (moves : List Move) → change ≡ unknown_change moves why
        → (change ≡ Left (Unknown why)) ⊎ (change ≡ Kept) × (moves ≡ [])
    report [] is = inr (is, refl)
    report (move ∷ moves) is = inl is
  of (path_before path tail_at) e Kept is =
      LeadsOn-kept m edit.target.syntax target path tail_at e target is refl
  of (path_before path tail_at) e (New text) is =
      LeadsOn-moved m edit.target.syntax target path tail_at e (string_bytes text) is
  of (path_before path tail_at) e (Left why) is = tt

-- ---- a page for which nothing moves

-- a path to a file that stays is never lost from a directory that stays
not_lost : (m : Moving) (path : List ℕ) (P : List Step → Type 0) → IsSame m.before m.after
    → IsLeftInPlace m.moves (m.before ++ components path) → ¬ AtLostFile m path P
not_lost m path P stays left (file, inl taken, lost) =
    left taken.place taken.move taken.below taken.leads taken.nearest.takes
not_lost m path P stays left (file, inr (_, is), lost) =
    lost.0 (rw is (IsSame-append_right (components path) (IsSame-sym stays)))

-- a target that leads to a file that stays, from a directory that stays, stays
change_text-in_place : (m : Moving) (page : List ℕ) (target : Target) (change : Change) (means : Meaning)
    → IsSame m.before m.after → StaysInPlace m means → ChangesBy m target.syntax (target_text page target) change means
    → change_text page target change ≡ target_text page target
change_text-in_place m page target change not_relative stays left is = ap (change_text page target) is
change_text-in_place m page target change (unknown why) stays left is =
    ap (change_text page target) is ∙ kept m.moves where
      kept : (moves : List Move) → change_text page target (unknown_change moves why) ≡ target_text page target
      kept [] = refl
      kept (move ∷ moves) = refl
change_text-in_place m page target Kept (path_before path tail_at) stays left is = refl
change_text-in_place m page target (New text) (path_before path tail_at) stays left is =
    absurd (not_lost m path _ stays left is.is_new.shortest)
change_text-in_place m page target (Left why) (path_before path tail_at) stays left is = refl

-- where a target leads from stays where the page's directory stays
IsSame-by : (p : PageMoving) (root : Option (List Step)) → IsSame p.before p.after
    → IsSame (moving_by p root).before (moving_by p root).after
IsSame-by p None stays = stays
IsSame-by p (Some root) stays = IsSame-refl root

all-in_place : (p : PageMoving) (page : List ℕ) (edits : List Edit) → IsSame p.before p.after
    → StayInPlace p page (targets_of edits) → AllByRecursion (Becomes p page) edits
    → AllByRecursion (λ edit. edit_text page edit ≡ target_text page edit.target) edits
all-in_place p page [] stays left become = tt
all-in_place p page (edit ∷ edits) stays (here, left) (is, become) =
    let target = target_text page edit.target in
    let m = moving_for p target in (
      change_text-in_place m page edit.target edit.change (meaning_at m.is_rooted edit.target.syntax target)
          (IsSame-by p (root_for p.root target) stays) here is.0,
      all-in_place p page edits stays left become,
    )

-- a rewritten page keeps its links
pub KeepsLinks-rewritten : (finds : List ℕ → List Target → Type 0) (p : PageMoving) (page : List ℕ) (edits : List Edit)
    (text : Option (String Global)) → IsRewritten finds p page edits text → KeepsLinks finds p page edits text
KeepsLinks-rewritten finds p page edits text is = record {
  found = is.found;
  in_order = is.in_order;
  links = λ k d within.
      let edit = get_or edits k d in
      KeepsLinkOf-becomes (moving_for p (target_text page edit.target)) page edit
      (All-from_recursion (Becomes p page) edits become k d within);
  text_is = is.text_is;
  same = λ nothing. none text is.text_is
      (with_edits-same page 0 edits is.in_order (all-in_place p page edits nothing.directory nothing.files become));
} where
  become : AllByRecursion (Becomes p page) edits
  become = become-settled p page is.written edits (recursion_from_All (Becomes p page) is.written is.become) is.settled

  none : (text : Option (String Global)) → HasText finds page edits text → with_edits page 0 edits ≡ page → IsNone text
  none None is same = refl
  none (Some text) is same = absurd (is.1 (is.0 ∙ same))

-- ---- the pages of a site

-- a page that is rewritten between its normal directories is rewritten between its directories
pub ForMovedPage-rewritten : (finds : List ℕ → List Target → Type 0) (root : Option (List Step)) (moves links : List Move)
    (page : List Step) (moved : PageMove) (text : List ℕ) (edits : List Edit) (new : Option (String Global))
    → IsNormalTextOf (directory page) moved.before
    → AtTreePath moves page (λ now. IsNormalTextOf now moved.path × IsNormalTextOf (directory now) moved.after)
    → IsRewritten finds (page_moving root links moved) text edits new
    → AtTreePath moves page (λ now. IsNormalTextOf now moved.path
    × IsRewritten finds (moved_to root links page now) text edits new)
ForMovedPage-rewritten finds root moves links page moved text edits new before (now, there, (normal, after)) is = (
  now,
  there,
  (
    normal,
    IsRewritten-same (page_moving root links moved) (moved_to root links page now)
        (record { moves = refl; before = IsSame-sym before.same; after = IsSame-sym after.same; root = refl }) finds text edits
        new is,
  ),
)

module _ (finds : List ℕ → List Target → Type 0) (root : Option (List Step)) (moves links : List Move) where
  -- rewritten pages keep their links
  pub KeepTheirLinks-rewritten : (pages : List SitePage) (news : List MovedSitePage)
      → AreRewritten finds root moves links pages news → KeepTheirLinks finds root moves links pages news
  KeepTheirLinks-rewritten [] [] are = tt
  KeepTheirLinks-rewritten [] (new ∷ news) are = absurd are
  KeepTheirLinks-rewritten (page ∷ pages) [] are = absurd are
  KeepTheirLinks-rewritten (page ∷ pages) (new ∷ news) ((now, there, (normal, is)), are) = (
    (
      now,
      there,
      (
        normal,
        KeepsLinks-rewritten finds (moved_to root links (components page.path.now) now) page.text.now new.edits.items new.text is,
      ),
    ),
    KeepTheirLinks-rewritten pages news are,
  )

-- the pages so far are rewritten
pub record SiteSoFar (finds : List ℕ → List Target → Type 0) (root : Option (List Step)) (moves links : List Move)
    (pages : List SitePage) (left : List SitePage) (news : List MovedSitePage) : Type 0 where
  pub rewritten : (more : List MovedSitePage) → AreRewritten finds root moves links left more
      → AreRewritten finds root moves links pages (news ++ more)

-- so is the next one
pub SiteSoFar-next : (finds : List ℕ → List Target → Type 0) (root : Option (List Step)) (moves links : List Move)
    (pages : List SitePage) (page : SitePage) (k : ℕ) (news : List MovedSitePage) (new : MovedSitePage) → k < length pages
    → page ≡ get_or pages k page → ForMovedPage (IsRewritten finds) root moves links page new
    → SiteSoFar finds root moves links pages (drop k pages) news
    → SiteSoFar finds root moves links pages (drop (k + 1) pages) (news ++ new ∷ [])
SiteSoFar-next finds root moves links pages page k news new within is one so_far = record {
  rewritten = λ more rest.
      let left = drop_more pages k page within ∙ ap (λ next. next ∷ drop (k + 1) pages) (sym is) in
      subst (AreRewritten finds root moves links pages) (sym (append_assoc news (new ∷ []) more))
      (so_far.rewritten (new ∷ more)
      (subst (λ pages. AreRewritten finds root moves links pages (new ∷ more)) (sym left) (one, rest)));
}

pub SiteSoFar-end : (finds : List ℕ → List Target → Type 0) (root : Option (List Step)) (moves links : List Move)
    (pages left : List SitePage) (news : List MovedSitePage) → left ≡ [] → SiteSoFar finds root moves links pages left news
    → AreRewritten finds root moves links pages news
SiteSoFar-end finds root moves links pages left news none so_far =
    subst (AreRewritten finds root moves links pages) (append-nil news) (so_far.rewritten [] (rw none tt))
