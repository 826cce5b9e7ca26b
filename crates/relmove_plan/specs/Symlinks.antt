-- The symbolic links that moves concern.
use Rattle.std.specs.Prelude.{◌≡◌, ◌⊎◌, ◌↔◌, ◌++◌, ℕ, List, Option, Some, None, IsNone, IsTrue, MatchOption, filter_map}
use Rattle.std.specs.List.{AllZip}
use Rattle.relative_path.specs.Steps.{Step, components}
use Rattle.relative_path.specs.Walk.{IsSame}
use Rattle.relative_path.specs.RelativePath.{path_components}
use Rattle.relative_path.specs.declared.path.RelativePath.{RelativePath}
use Rattle.relative_path_places.specs.Places.{directory}
use Rattle.relative_path_moves.specs.Moves.{Move}
use Rattle.relative_path_moves.specs.TreeMoves.{AtTreePath}
use Rattle.relmove_checks.specs.declared.entry.Entry.{Entry}
use Rattle.relmove_checks.specs.declared.entry.Kind.{Kind}
use Rattle.relmove_checks.specs.declared.entry.Kind.TheVariants.{File, Directory, Symlink}
use Rattle.relmove_plan.specs.declared.symlinks.SymlinkNotice.{SymlinkNotice}

-- what is at the path is elsewhere after the moves. A path that climbs above the root stays where it is
abbrev pub GetsElsewhere : List Move → List Step → Type 0
GetsElsewhere moves path = AtTreePath moves path (λ now. ¬ IsSame now path)

-- the path that a symbolic link has gets elsewhere, followed from the link's directory. `None` isn't a relative path
abbrev pub LeadsToMoved : List Move → List Step → Option RelativePath → Type 0
LeadsToMoved moves symlink None = ⊥
LeadsToMoved moves symlink (Some path) = GetsElsewhere moves (directory symlink ++ path_components path)

-- a symbolic link gets elsewhere, or leads to what does
abbrev pub IsConcerned : List Move → List Step → Option RelativePath → Type 0
IsConcerned moves symlink path = GetsElsewhere moves symlink ⊎ LeadsToMoved moves symlink path

-- the notice is of a symbolic link that the moves concern: it says where it is, whether it gets elsewhere, and whether it
-- leads to what does
pub record IsNoticeOf (moves : List Move) (symlink : List ℕ) (path : Option RelativePath) (notice : SymlinkNotice)
    : Type 0 where
  pub concerned : IsConcerned moves (components symlink) path
  pub at : notice.path ≡ symlink
  pub itself : IsTrue notice.moves ↔ GetsElsewhere moves (components symlink)
  pub leads : IsTrue notice.leads_to_moved ↔ LeadsToMoved moves (components symlink) path

-- an entry with this path and kind has a notice exactly if it is a symbolic link that the moves concern
abbrev pub HasNotice : List Move → List ℕ → Kind → Option SymlinkNotice → Type 0
HasNotice moves path File notice = IsNone notice
HasNotice moves path (Directory foreign read) notice = IsNone notice
HasNotice moves symlink (Symlink path) notice =
    MatchOption notice (¬ IsConcerned moves (components symlink) path) (IsNoticeOf moves symlink path)

-- each entry has a notice or none; the notices are those that there are, in the order of the entries
abbrev pub AreNotices : List Move → List Entry → List SymlinkNotice → Type 0
AreNotices moves entries notices = (each : List (Option SymlinkNotice))
    × AllZip (λ entry. HasNotice moves entry.path entry.kind) entries each × (notices ≡ filter_map (λ notice. notice) each)
