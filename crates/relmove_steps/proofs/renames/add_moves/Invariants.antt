-- So far nothing is lost, each move is done, with its name, and nothing leaves twice.
use Rattle.std.proofs.Common.{◌≡◌, ◌++◌, ℕ, ◌<◌, [], List, get_or, map, take, string_bytes}
use Rattle.relative_path.specs.Steps.{Step}
use Rattle.relative_path_moves.specs.Moves.{AreApart, written_moves, move_at}
use Rattle.relative_path_places.specs.PlaceIndex.{Indexes}
use Rattle.relmove_steps.specs.Actions.{DoesMove, LosesNothing, OnlyTheseLeave, staged_names, rename_texts}
use Rattle.relmove_steps.specs.NewFiles.{DoNothingYet, LeaveOnce}
use Rattle.relmove_steps.specs.Directories.{LeavesTo}
use Rattle.relmove_steps.proofs.renames.add_moves.Given as goal

abbrev pub invariant-loop-number : goal.invariant-loop-number
invariant-loop-number l = record {
  kept : LosesNothing (rename_texts l.renames);
  moved : (paths : List (List Step)) → Indexes paths l.changed
      → (j : ℕ) → j < l.number → DoesMove paths (rename_texts l.renames) (move_at (written_moves l.moves) j);
  only : (paths : List (List Step)) → OnlyTheseLeave (written_moves l.moves) paths (rename_texts l.fn.renames)
      → OnlyTheseLeave (written_moves l.moves) paths (rename_texts l.renames);
  left : staged_names (rename_texts l.renames)
      ≡ staged_names (rename_texts l.fn.renames) ++ map string_bytes (take l.number l.staging);
  texts : (rename_texts l.renames).texts ≡ (rename_texts l.fn.renames).texts;
  so_far : DoNothingYet (rename_texts l.fn.renames)
      → OnlyTheseLeave (take l.number (written_moves l.moves)) [] (rename_texts l.renames);
  once : AreApart (written_moves l.moves) → DoNothingYet (rename_texts l.fn.renames) → LeaveOnce (rename_texts l.renames);
  named : (j : ℕ) → j < l.number
      → LeavesTo (rename_texts l.renames) (move_at (written_moves l.moves) j).old (get_or (map string_bytes l.staging) j []);
}
