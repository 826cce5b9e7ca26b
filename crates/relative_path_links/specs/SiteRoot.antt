-- Targets that begin with one slash: how they are read from a site's root, and how they are written.
use Rattle.std.specs.Prelude.{ℕ, Bool, true, false, ◌&&◌, not, nat_eq, List, ◌++◌, ◌-◌, codes, drop, Option, Some, None, ◌≡◌, ⊤, if◌then◌else◌, slice_index}
use Rattle.std.specs.List.{starts_with}
use Rattle.std.specs.Option.{is_some}
use Rattle.relative_path.specs.Steps.{Step, is_slash, components}
use Rattle.relative_path.specs.Walk.{place_of}
use Rattle.relative_path_moves.specs.Moves.{Move}
use Rattle.relative_path_moves.specs.declared.tree_moves.PageMove.{PageMove}
use Rattle.target_paths.specs.declared.target.TargetSyntax.{TargetSyntax}
use Rattle.target_paths.specs.Reading.{Meaning, not_relative, path_before, unknown, meaning}
use Rattle.target_paths.specs.Writing.{target_of}
use Rattle.relative_path_links.specs.declared.site_root.Start.{Start}

-- the target begins with one slash: two would begin the name of a host
abbrev pub begins_rooted : List ℕ → Bool
begins_rooted target = is_slash (slice_index target 0) && not (is_slash (slice_index target 1))

-- the path begins with `./`
abbrev pub begins_with_dot : List ℕ → Bool
begins_with_dot path = starts_with nat_eq path (codes "./")

-- the path leads from the root: it begins with a dot and one slash, and doesn't lead above the root
abbrev pub leads_from_root : List ℕ → Bool
leads_from_root path =
    begins_with_dot path && not (is_slash (slice_index path 2)) && is_some (place_of (components path))

-- what a target means from the root, by what it means with a dot before it
abbrev pub without_dot : Meaning → Meaning
without_dot not_relative = not_relative
without_dot (unknown why) = unknown why
without_dot (path_before path tail_at) = if leads_from_root path then path_before path (tail_at - 1) else not_relative

-- what a target means from the root: `/a` leads where `./a` leads; it isn't read if it names a host, or leads above the root
abbrev pub meaning_from_root : TargetSyntax → List ℕ → Meaning
meaning_from_root syntax target =
    if begins_rooted target then without_dot (meaning syntax (codes "." ++ target)) else not_relative

-- what a target means: from the site's root, or from the page's directory
abbrev pub meaning_at : Bool → TargetSyntax → List ℕ → Meaning
meaning_at true syntax target = meaning_from_root syntax target
meaning_at false syntax target = meaning syntax target

-- the target of a path: from the site's root the path begins with `./`, and the dot is left out
abbrev pub target_at : Bool → List ℕ → List ℕ
target_at true path = drop 1 (target_of path)
target_at false path = target_of path

-- some moves, the directory from which a target leads before and after them, and whether that is the site's root
pub record Moving : Type 0 where
  pub moves : List Move
  pub before : List Step
  pub after : List Step
  pub is_rooted : Bool

-- some moves, a page's directory before and after them, and the site's root, if it is known
pub record PageMoving : Type 0 where
  pub moves : List Move
  pub before : List Step
  pub after : List Step
  pub root : Option (List Step)

-- the moves of a table, the directories of a page, and the site's root
abbrev pub page_moving : Option (List Step) → List Move → PageMove → PageMoving
page_moving root moves page =
    record { moves = moves; before = components page.before; after = components page.after; root = root }

-- the site's root, if a target leads from there: if it is known, and the target begins with one slash
abbrev pub root_for : Option (List Step) → List ℕ → Option (List Step)
root_for root target = if begins_rooted target then root else None

-- the moves of a target that leads from this root, which is the same before and after them, or from the page's directory
abbrev pub moving_by : PageMoving → Option (List Step) → Moving
moving_by p None = record { moves = p.moves; before = p.before; after = p.after; is_rooted = false }
moving_by p (Some root) = record { moves = p.moves; before = root; after = root; is_rooted = true }

-- the moves of a target of the page
abbrev pub moving_for : PageMoving → List ℕ → Moving
moving_for p target = moving_by p (root_for p.root target)

-- the moves of a table, for a target that leads from there
abbrev pub moving_from : List Move → Start → Moving
moving_from moves start = record {
  moves = moves;
  before = components start.directory.now.before;
  after = components start.directory.now.after;
  is_rooted = start.is_rooted;
}

-- the components of a site's root, if it is known
abbrev pub root_steps : Option PageMove → Option (List Step)
root_steps None = None
root_steps (Some root) = Some (components root.before)

-- the site's root is the same before and after the moves
abbrev pub StaysRoot : Option PageMove → Type 0
StaysRoot None = ⊤
StaysRoot (Some root) = root.after ≡ root.before
