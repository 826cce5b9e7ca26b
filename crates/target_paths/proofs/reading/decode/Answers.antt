use Rattle.std.proofs.Common.{◌∙◌}
use Rattle.target_paths.specs.Pieces.{read_pieces}
use Rattle.target_paths.specs.Shown.{piece_of}
use Rattle.target_paths.specs.Url.{is_unencoded, url_piece}
use Rattle.target_paths.proofs.PiecesLemmas.{from_byte, read_pieces-left, bytes_of_pieces-next}
use Rattle.target_paths.proofs.PlainLemmas.{bytes_of_pieces-plain-so_far, read_pieces-unencoded}
use Rattle.target_paths.proofs.reading.decode.Goals as goal

pub loop-left-init : goal.loop-left-init
loop-left-init c =
    bytes_of_pieces-plain-so_far (read_pieces url_piece 0) is_unencoded read_pieces-unencoded c.unencoded_len-plain.result c.args.text.now
    c.in_ok-bytes.bytes.items c.extend_from_slice.new.self.items c.in_ok-bytes.ensures.items
    c.in_ok-extend_from_slice.ensures.items c.unencoded_len-plain.ensures.plain

pub loop-left-preserved : goal.loop-left-preserved
loop-left-preserved c =
    let left = c.loop-left.left.now in
    let piece = piece_of c.url_piece-piece.result in
    let read = c.url_piece-piece.ensures in
    bytes_of_pieces-next c.loop-left.bytes.items c.push_read.new.bytes.items piece (read_pieces url_piece 0 left)
    (read_pieces url_piece 0 (from_byte piece.size left))
    (read_pieces-left url_piece left piece c.in-len1-up.len_at_least read.piece read.some)
    c.in_ok-push_read.ensures.ok
    ∙ c.loop-left.invariant
