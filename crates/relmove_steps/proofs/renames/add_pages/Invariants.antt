-- So far nothing is lost, each page that changes is replaced, its old text is removed, and nothing leaves twice.
use Rattle.std.proofs.Common.{All, ◌≡◌, List, [], length, take}
use Rattle.relative_path.specs.Steps.{Step}
use Rattle.relative_path_moves.specs.Moves.{Move}
use Rattle.relative_path_places.specs.PlaceIndex.{Indexes}
use Rattle.relative_path_places.specs.declared.place_index.PlaceIndex.{PlaceIndex}
use Rattle.relmove_checks.specs.Moves.{EachMove}
use Rattle.relmove_steps.specs.Actions.{AreAmong, DoesMove, LosesNothing, OnlyTheseLeave, RemovesAt, ReplacesPages, WritesPages, staged_names, old_paths, rename_texts}
use Rattle.relmove_steps.specs.Pages.{changed_paths}
use Rattle.relmove_steps.specs.StagingNames.{AreDrawn}
use Rattle.relmove_steps.specs.NewFiles.{AreFilesDrawn, LeaveFromEntries, LeaveOnce}
use Rattle.relmove_steps.proofs.PagesLemmas.{count_changed}
use Rattle.relmove_steps.proofs.renames.add_pages.Given as goal

abbrev pub invariant-loop-page : goal.invariant-loop-page
invariant-loop-page l = record {
  kept : LosesNothing (rename_texts l.renames);
  among : AreAmong (rename_texts l.fn.renames) (rename_texts l.renames);
  replaced : ReplacesPages (take (length l.yielded) l.pages) (take (length l.yielded) l.news) (rename_texts l.renames);
  removed : (moves : List Move) → Indexes (old_paths moves) l.olds
      → EachMove (DoesMove (changed_paths l.pages l.news) (rename_texts l.fn.renames)) moves
      → All (RemovesAt (rename_texts l.renames))
      (take (count_changed l.pages l.news (length l.yielded)) (changed_paths l.pages l.news));
  only : (moves : List Move) → OnlyTheseLeave moves (changed_paths l.pages l.news) (rename_texts l.fn.renames)
      → OnlyTheseLeave moves (changed_paths l.pages l.news) (rename_texts l.renames);
  free : (index : PlaceIndex) → AreDrawn index l.fn.names (staged_names (rename_texts l.fn.renames))
      → AreDrawn index l.names (staged_names (rename_texts l.renames));
  files : (index : PlaceIndex) → AreDrawn index l.fn.names (staged_names (rename_texts l.fn.renames))
      → AreFilesDrawn index (changed_paths l.pages l.news) l.fn.names (rename_texts l.fn.renames)
      → AreFilesDrawn index (changed_paths l.pages l.news) l.names (rename_texts l.renames);
  texts : (rename_texts l.fn.renames).texts ≡ []
      → WritesPages (take (count_changed l.pages l.news (length l.yielded)) (changed_paths l.pages l.news))
      (rename_texts l.renames);
  so_far : (moves : List Move) → OnlyTheseLeave moves [] (rename_texts l.fn.renames)
      → OnlyTheseLeave moves
      (take (count_changed l.pages l.news (length l.yielded)) (changed_paths l.pages l.news)) (rename_texts l.renames);
  once : (index : PlaceIndex) (entries : List (List Step)) (moves : List Move) → Indexes entries index
      → Indexes (old_paths moves) l.olds → LeaveFromEntries entries moves (changed_paths l.pages l.news)
      → AreDrawn index l.fn.names (staged_names (rename_texts l.fn.renames))
      → AreFilesDrawn index (changed_paths l.pages l.news) l.fn.names (rename_texts l.fn.renames)
      → OnlyTheseLeave moves [] (rename_texts l.fn.renames) → LeaveOnce (rename_texts l.fn.renames)
      → LeaveOnce (rename_texts l.renames);
}
