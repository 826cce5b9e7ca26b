use Rattle.std.proofs.Common.{◌≡◌, Ok, length}
use Rattle.target_paths.specs.Pieces.{append_read, bytes_of_pieces, read_pieces}
use Rattle.target_paths.specs.Url.{url_piece}
use Rattle.target_paths.proofs.reading.decode.Given as goal

abbrev pub invariant-loop-left : goal.invariant-loop-left
invariant-loop-left l =
    append_read (Ok l.bytes.items) (bytes_of_pieces (read_pieces url_piece 0 l.left)) ≡ bytes_of_pieces (read_pieces url_piece 0 l.text)

abbrev pub decreases-loop-left : goal.decreases-loop-left
decreases-loop-left l = length l.left
