-- Each move so far is fine.
use Rattle.std.proofs.Common.{ℕ, ◌<◌, List}
use Rattle.relative_path_moves.specs.Moves.{Move, written_moves, move_at}
use Rattle.relative_path_places.specs.PlaceIndex.{Indexes}
use Rattle.relmove_checks.specs.declared.entry.Entry.{Entry}
use Rattle.relmove_checks.specs.Trees.{AreForeignPaths, IsOldFine, entry_paths}
use Rattle.relmove_checks.proofs.refused.check_olds.Given as goal

abbrev pub invariant-loop-number : goal.invariant-loop-number
invariant-loop-number l = (entries : List Entry) → Indexes (entry_paths entries) l.index → AreForeignPaths entries l.foreign
    → (j : ℕ) → j < l.number → (λ (move : Move). IsOldFine entries move.old) (move_at (written_moves l.moves) j)
