-- The moves so far are the first of the moves to the names.
use Rattle.std.proofs.Common.{◌≡◌, length, map, string_bytes, take}
use Rattle.relative_path_moves.specs.Moves.{written_moves}
use Rattle.relmove_steps.specs.Directories.{moves_to_names}
use Rattle.relmove_steps.proofs.renames.moves_to_staging.Given as goal

abbrev pub invariant-loop-a : goal.invariant-loop-a
invariant-loop-a l = written_moves l.news.items
    ≡ take (length l.yielded) (moves_to_names (written_moves l.moves) (map string_bytes l.staging))
