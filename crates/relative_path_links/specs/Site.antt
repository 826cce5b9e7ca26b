-- What a site keeps when its files move: each link leads to the file to which it led, or is left.
use Rattle.std.specs.Prelude.{◌≡◌, ◌⊎◌, ◌++◌, ℕ, List, [], ◌∷◌, drop, Option, String, IsNone, ⊤, string_bytes}
use Rattle.std.specs.declared.alloc.Global.{Global}
use Rattle.std.specs.List.{All, AllZip}
use Rattle.relative_path.specs.Steps.{Step, components}
use Rattle.relative_path.specs.Walk.{IsSame}
use Rattle.relative_path.specs.Normalizing.{IsNormalTextOf}
use Rattle.relative_path.specs.Relating.{Leads}
use Rattle.relative_path_moves.specs.Moves.{Move}
use Rattle.relative_path_places.specs.Places.{directory}
use Rattle.relative_path_moves.specs.TreeMoves.{AtTreePath, IsLeftInPlace}
use Rattle.target_paths.specs.declared.target.TargetSyntax.{TargetSyntax}
use Rattle.target_paths.specs.Reading.{Meaning, not_relative, path_before, unknown}
use Rattle.relative_path_links.specs.Targets.{target_text, HasTargets}
use Rattle.relative_path_links.specs.Edits.{targets_of, IsGivenUp, IsSettled}
use Rattle.relative_path_links.specs.Reading.{HasCause, HasText}
use Rattle.relative_path_links.specs.SiteRoot.{Moving, PageMoving, meaning_at, moving_for}
use Rattle.relative_path_links.specs.Rewriter.{AtFile, Becomes, HasFileBy}
use Rattle.relative_path_links.specs.declared.edit.Change.{Change}
use Rattle.relative_path_links.specs.declared.edit.Change.TheVariants.{Kept, New, Left}
use Rattle.relative_path_links.specs.declared.edit.Edit.{Edit}
use Rattle.relative_path_links.specs.declared.edit.Unchanged.TheVariants.{Unknown}
use Rattle.relative_path_links.specs.declared.target.Target.{Target}
use Rattle.relative_path_links.specs.declared.site.MovedSitePage.{MovedSitePage}
use Rattle.relative_path_links.specs.declared.site.SitePage.{SitePage}

-- the page's edits are those of the rewriter, but for new targets that are given up, and none is unless the page would read
-- otherwise with all of them; the page changes to the text, which reads as the edits say
pub record IsRewritten (finds : List ℕ → List Target → Type 0) (p : PageMoving) (page : List ℕ) (edits : List Edit)
    (text : Option (String Global)) : Type 0 where
  pub found : finds page (targets_of edits)
  pub in_order : HasTargets page 0 (targets_of edits)
  pub written : List Edit
  pub become : All (Becomes p page) written
  pub new : All (λ edit. ¬ IsGivenUp edit.change) written
  pub settled : AllZip IsSettled written edits
  pub cause : HasCause finds page written edits
  pub text_is : HasText finds page edits text

-- a reader of the syntax takes the text as a path that leads, from where the target leads after the moves, to where the
-- file is to which the old path led, and the query and fragment after it are the old ones
pub record LeadsOn (m : Moving) (syntax : TargetSyntax) (target path : List ℕ) (tail_at : ℕ) (text : List ℕ)
    : Type 0 where
  pub new : List ℕ
  pub new_tail_at : ℕ
  pub read : meaning_at m.is_rooted syntax text ≡ path_before new new_tail_at
  pub leads : AtFile m path (λ file. Leads m.after (components new) file)
  pub tail : drop new_tail_at text ≡ drop tail_at target

-- a target that is read as a path leads to the same file after the change, or it is left
abbrev pub LeadsOnBy : Moving → TargetSyntax → List ℕ → List ℕ → ℕ → Change → Type 0
LeadsOnBy m syntax target path tail_at Kept = LeadsOn m syntax target path tail_at target
LeadsOnBy m syntax target path tail_at (New text) = LeadsOn m syntax target path tail_at (string_bytes text)
LeadsOnBy m syntax target path tail_at (Left why) = ⊤

-- a target with this meaning keeps its link. If it isn't relative, it is kept. If its meaning isn't known, it is left,
-- or kept if there is no move. If it is read as a path, it leads to the same file, or it is left
abbrev pub KeepsLinkBy : Moving → TargetSyntax → List ℕ → Change → Meaning → Type 0
KeepsLinkBy m syntax target change not_relative = change ≡ Kept
KeepsLinkBy m syntax target change (unknown why) = (change ≡ Left (Unknown why)) ⊎ (change ≡ Kept) × (m.moves ≡ [])
KeepsLinkBy m syntax target change (path_before path tail_at) = LeadsOnBy m syntax target path tail_at change

-- a target of the page keeps its link, and has its file, by the moves of the target
abbrev pub KeepsLinkOf : Moving → List ℕ → Edit → Type 0
KeepsLinkOf m page edit =
    KeepsLinkBy m edit.target.syntax (target_text page edit.target) edit.change
    (meaning_at m.is_rooted edit.target.syntax (target_text page edit.target))
    × HasFileBy m edit.file (meaning_at m.is_rooted edit.target.syntax (target_text page edit.target))

-- a target of the page keeps its link, and has its file: it leads from the site's root, if that is known and the target
-- begins with one slash, and still does after the moves
abbrev pub KeepsLink : PageMoving → List ℕ → Edit → Type 0
KeepsLink p page edit = KeepsLinkOf (moving_for p (target_text page edit.target)) page edit

-- if a target with this meaning is read as a path, no move takes along the file to which the path leads
abbrev pub StaysInPlace : Moving → Meaning → Type 0
StaysInPlace m not_relative = ⊤
StaysInPlace m (unknown why) = ⊤
StaysInPlace m (path_before path tail_at) = IsLeftInPlace m.moves (m.before ++ components path)

-- no move takes along the file to which a target of the page leads
abbrev pub TargetStays : Moving → List ℕ → Target → Type 0
TargetStays m page target = StaysInPlace m (meaning_at m.is_rooted target.syntax (target_text page target))

-- no move takes along a file to which one of the targets leads
abbrev pub StayInPlace : PageMoving → List ℕ → List Target → Type 0
StayInPlace p page [] = ⊤
StayInPlace p page (target ∷ targets) =
    TargetStays (moving_for p (target_text page target)) page target × StayInPlace p page targets

-- neither the page's directory nor a file to which a target of the page leads is moved
pub record NothingMoves (p : PageMoving) (page : List ℕ) (targets : List Target) : Type 0 where
  pub directory : IsSame p.before p.after
  pub files : StayInPlace p page targets

-- the finder finds the targets of the edits in the page, and each keeps its link; the page changes to the text, with the
-- edits alone, which reads as they say; a page for which nothing moves stays as it is
pub record KeepsLinks (finds : List ℕ → List Target → Type 0) (p : PageMoving) (page : List ℕ) (edits : List Edit)
    (text : Option (String Global)) : Type 0 where
  pub found : finds page (targets_of edits)
  pub in_order : HasTargets page 0 (targets_of edits)
  pub links : All (KeepsLink p page) edits
  pub text_is : HasText finds page edits text
  pub same : NothingMoves p page (targets_of edits) → IsNone text

-- the moves of what links lead to, with the directory of a page at this path before the moves and of the page at its new path
-- after them, and the site's root
abbrev pub moved_to : Option (List Step) → List Move → List Step → List Step → PageMoving
moved_to root links page now = record { moves = links; before = directory page; after = directory now; root = root }

-- P holds of a page: of its text, its edits and its new text, as it moves from its path to its new path, and what links lead
-- to by moves of its own
abbrev pub ForMovedPage : (PageMoving → List ℕ → List Edit → Option (String Global) → Type 0) → Option (List Step)
    → List Move → List Move → SitePage → MovedSitePage → Type 0
ForMovedPage P root moves links page new = AtTreePath moves (components page.path.now) (λ now. IsNormalTextOf now new.path
    × P (moved_to root links (components page.path.now) now) page.text.now new.edits.items new.text)

-- the pages of a site with this root are rewritten: each moves by the first moves, and what links lead to by the second
abbrev pub AreRewritten : (List ℕ → List Target → Type 0) → Option (List Step) → List Move → List Move → List SitePage
    → List MovedSitePage → Type 0
AreRewritten finds root moves links pages news = AllZip (ForMovedPage (IsRewritten finds) root moves links) pages news

-- the pages of a site with this root keep their links: each moves by the first moves, and what links lead to by the second
abbrev pub KeepTheirLinks : (List ℕ → List Target → Type 0) → Option (List Step) → List Move → List Move → List SitePage
    → List MovedSitePage → Type 0
KeepTheirLinks finds root moves links pages news = AllZip (ForMovedPage (KeepsLinks finds) root moves links) pages news
