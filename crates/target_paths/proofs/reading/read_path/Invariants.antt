use Rattle.std.proofs.Common.{◌≡◌, ◌≤◌, ◌+◌, ◌-◌, Ok, length, drop}
use Rattle.target_paths.specs.Pieces.{append_read, bytes_of_pieces, total_size}
use Rattle.target_paths.specs.Reading.{path_pieces}
use Rattle.target_paths.proofs.reading.read_path.Given as goal

abbrev pub invariant-loop-left : goal.invariant-loop-left
invariant-loop-left l = record {
  read : append_read (Ok l.bytes.items) (bytes_of_pieces (path_pieces l.syntax l.left)) ≡ bytes_of_pieces (path_pieces l.syntax l.target);
  at : l.left ≡ drop (length l.target - length l.left) l.target;
  within : length l.left ≤ length l.target;
  size : (length l.target - length l.left) + total_size (path_pieces l.syntax l.left)
      ≡ total_size (path_pieces l.syntax l.target);
}

abbrev pub decreases-loop-left : goal.decreases-loop-left
decreases-loop-left l = length l.left
