-- What becomes of the targets of a page when files move, and of the page.
use Rattle.std.specs.Prelude.{◌≡◌, ◌⊎◌, ℕ, Bool, true, false, ◌&&◌, ◌||◌, not, nat_eq, List, [], ◌∷◌, ◌++◌, codes, length, drop, Option, None, IsSome, IsSomeAnd, if◌then◌else◌, string_bytes}
use Rattle.std.specs.List.{starts_with, ends_with, list_any}
use Rattle.std.specs.Str.{bytes_eq}
use Rattle.relative_path.specs.Steps.{Step, slash, components}
use Rattle.relative_path.specs.Normalizing.{IsNormalTextOf}
use Rattle.relative_path.specs.Relating.{Leads, IsReachable, IsShortestText}
use Rattle.relative_path.specs.Walk.{place_of}
use Rattle.relative_path_moves.specs.Moves.{Move, ClimbsAbove, BelowTop}
use Rattle.relative_path_moves.specs.TreeMoves.{AtTreeFile}
use Rattle.target_paths.specs.declared.target.TargetSyntax.{TargetSyntax}
use Rattle.target_paths.specs.declared.target.WhyUnknown.{WhyUnknown}
use Rattle.target_paths.specs.Reading.{Meaning, not_relative, path_before, unknown}
use Rattle.target_paths.specs.Writing.{is_nul, path_written, target_of, IsTakenAs}
use Rattle.relative_path_links.specs.SiteRoot.{Moving, PageMoving, begins_with_dot, meaning_at, moving_for, target_at}
use Rattle.relative_path_links.specs.UrlPath.{ends_in_slash}
use Rattle.relative_path_links.specs.Targets.{target_text}
use Rattle.relative_path_links.specs.declared.edit.Change.{Change}
use Rattle.relative_path_links.specs.declared.edit.Change.TheVariants.{Kept, New, Left}
use Rattle.relative_path_links.specs.declared.edit.Edit.{Edit}
use Rattle.relative_path_links.specs.declared.edit.Unchanged.{Unchanged}
use Rattle.relative_path_links.specs.declared.edit.Unchanged.TheVariants.{AboveRoot, NoPath, OutsideSiteRoot, Nul, Unknown, WouldReadOtherwise}

-- P holds of where the file is after the moves to which a path of the page led before
abbrev pub AtFile : Moving → List ℕ → (List Step → Type 0) → Type 0
AtFile m path P = AtTreeFile m.moves m.before (components path) P

-- the path, as it is written, leads to the file after the moves too
abbrev pub StillLeads : Moving → List ℕ → Type 0
StillLeads m path = AtFile m path (λ file. Leads m.after (components path) file)

-- the path no longer leads to the file, and P holds of where the file is
abbrev pub AtLostFile : Moving → List ℕ → (List Step → Type 0) → Type 0
AtLostFile m path P = AtFile m path (λ file. (¬ Leads m.after (components path) file) × P file)

-- the way begins with `..`: it is `..` or begins with `../`
abbrev pub begins_with_up : List ℕ → Bool
begins_with_up way = bytes_eq way (codes "..") || starts_with nat_eq way (codes "../")

-- the way, with `./` before it if the path begins so and the way doesn't begin with `..`
abbrev pub with_dot : List ℕ → List ℕ → List ℕ
with_dot path way = if begins_with_dot path && not (begins_with_up way) then codes "./" ++ way else way

-- the path is `.` or `..`, or ends in one of them after a slash: a reader of a URL takes it as with a slash at its end
abbrev pub ends_in_dots : List ℕ → Bool
ends_in_dots path =
    bytes_eq path (codes ".") || bytes_eq path (codes "..") || ends_with nat_eq path (codes "/.")
    || ends_with nat_eq path (codes "/..")

-- the way lacks the slash of the path: it has no slash at its end, and the path has one, or a reader takes the path as with
-- one, and not the way
abbrev pub lacks_slash : List ℕ → List ℕ → Bool
lacks_slash path way = (ends_in_slash path || ends_in_dots path && not (ends_in_dots way)) && not (ends_in_slash way)

-- the way, with a slash at its end if it lacks the slash of the path
abbrev pub with_slash : List ℕ → List ℕ → List ℕ
with_slash path way = if lacks_slash path way then way ++ slash ∷ [] else way

-- the way, with the `./` and the slash of the path
abbrev pub written_like : List ℕ → List ℕ → List ℕ
written_like path way = with_slash path (with_dot path way)

-- the path to write in place of a path that no longer leads to its file: the shortest path to the file from where the
-- target leads after the moves, with the `./` and the slash of the old path
pub record IsNewPath (m : Moving) (path new : List ℕ) : Type 0 where
  pub way : List ℕ
  pub shortest : AtLostFile m path (BelowTop (λ file. IsShortestText m.after file way))
  pub text : new ≡ written_like path way

-- the text is a target for the new path in place of this one: the new path is written before the old tail, and a reader
-- of the syntax takes the text as the new path
pub record IsMovedTarget (m : Moving) (syntax : TargetSyntax) (path tail text : List ℕ) : Type 0 where
  pub new : List ℕ
  pub is_new : IsNewPath m path new
  pub whole : text ≡ target_at m.is_rooted new ++ tail
  pub read : meaning_at m.is_rooted syntax text ≡ path_before (path_written new) (length (target_at m.is_rooted new))

-- a target that is this path and then the tail is left for this reason although the path no longer leads to its file: the
-- file is above the root, no path leads there, the shortest path from the site's root leads above that root, the new path
-- has a NUL, or there is a new target, which is given up
abbrev pub LeavesPath : Moving → TargetSyntax → List ℕ → List ℕ → Unchanged → Type 0
LeavesPath m syntax path tail AboveRoot = AtLostFile m path ClimbsAbove
LeavesPath m syntax path tail NoPath = AtLostFile m path (BelowTop (λ file. ¬ IsReachable m.after file))
LeavesPath m syntax path tail OutsideSiteRoot =
    (m.is_rooted ≡ true) × (way : List ℕ) × AtLostFile m path (BelowTop (λ file. IsShortestText m.after file way))
    × ClimbsAbove (components way)
LeavesPath m syntax path tail Nul = (new : List ℕ) × IsNewPath m path new × (list_any is_nul new ≡ true)
LeavesPath m syntax path tail (Unknown why) = ⊥
LeavesPath m syntax path tail WouldReadOtherwise = (text : List ℕ) × IsMovedTarget m syntax path tail text

-- what becomes of a target that is this path and then the tail: it is kept if the path still leads to the file, or it
-- moves, or it is left
abbrev pub ChangesPath : Moving → TargetSyntax → List ℕ → List ℕ → Change → Type 0
ChangesPath m syntax path tail Kept = StillLeads m path
ChangesPath m syntax path tail (New text) = IsMovedTarget m syntax path tail (string_bytes text)
ChangesPath m syntax path tail (Left why) = LeavesPath m syntax path tail why

-- what becomes of a target whose meaning isn't known: it may lead to a file that moved, if any did
abbrev pub unknown_change : List Move → WhyUnknown → Change
unknown_change [] why = Kept
unknown_change (move ∷ moves) why = Left (Unknown why)

-- what becomes of a target with this meaning
abbrev pub ChangesBy : Moving → TargetSyntax → List ℕ → Change → Meaning → Type 0
ChangesBy m syntax target change not_relative = change ≡ Kept
ChangesBy m syntax target change (unknown why) = change ≡ unknown_change m.moves why
ChangesBy m syntax target change (path_before path tail_at) = ChangesPath m syntax path (drop tail_at target) change

-- the file to which a target with this meaning leads before the moves, if it is read as a path
abbrev pub HasFileBy : Moving → Option (List ℕ) → Meaning → Type 0
HasFileBy m file not_relative = file ≡ None
HasFileBy m file (unknown why) = file ≡ None
HasFileBy m file (path_before path tail_at) = IsSomeAnd file (IsNormalTextOf (m.before ++ components path))

-- what becomes of a target of the page, and its file, by the moves of the target
abbrev pub BecomesBy : Moving → List ℕ → Edit → Type 0
BecomesBy m page edit =
    ChangesBy m edit.target.syntax (target_text page edit.target) edit.change
    (meaning_at m.is_rooted edit.target.syntax (target_text page edit.target))
    × HasFileBy m edit.file (meaning_at m.is_rooted edit.target.syntax (target_text page edit.target))

-- what becomes of a target of the page, and its file
abbrev pub Becomes : PageMoving → List ℕ → Edit → Type 0
Becomes p page edit = BecomesBy (moving_for p (target_text page edit.target)) page edit

-- the target of the path, with the tail after it, is read as the path that is written
abbrev pub IsTakenBack : List ℕ → Type 0
IsTakenBack new = IsTakenAs (target_of new) (path_before (path_written new) (length (target_of new)))

-- what becomes of a target that is this path and then the tail, if its file has this way: the way is written, unless it
-- has a NUL
abbrev pub IsChangeByWay : List ℕ → List ℕ → List ℕ → Change → Type 0
IsChangeByWay path tail way Kept = ⊥
IsChangeByWay path tail way (New text) =
    (list_any is_nul (written_like path way) ≡ false)
    × (string_bytes text ≡ target_of (written_like path way) ++ tail)
    × IsTakenBack (written_like path way)
IsChangeByWay path tail way (Left why) = (why ≡ Nul) × (list_any is_nul (written_like path way) ≡ true)

-- what becomes of a target that leads from the site's root: without the dot, unless the way leads above the root, or has
-- a NUL
abbrev pub IsRootedChangeByWay : List ℕ → List ℕ → List ℕ → Change → Type 0
IsRootedChangeByWay path tail way Kept = ⊥
IsRootedChangeByWay path tail way (New text) =
    IsSome (place_of (components way))
    × (string_bytes text ≡ target_at true (written_like path way) ++ tail)
    × IsTakenBack (written_like path way)
IsRootedChangeByWay path tail way (Left why) =
    ((why ≡ OutsideSiteRoot) × ClimbsAbove (components way))
    ⊎ (why ≡ Nul) × (list_any is_nul (written_like path way) ≡ true)

-- the same, for either start
abbrev pub IsChangeAt : Bool → List ℕ → List ℕ → List ℕ → Change → Type 0
IsChangeAt true path tail way change = IsRootedChangeByWay path tail way change
IsChangeAt false path tail way change = IsChangeByWay path tail way change
