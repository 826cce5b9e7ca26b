use Rattle.std.proofs.Common.{◌∙◌, sym, length, arith}
use Rattle.target_paths.specs.Pieces.{total_size}
use Rattle.target_paths.specs.Reading.{path_pieces}
use Rattle.target_paths.specs.Shown.{piece_of}
use Rattle.target_paths.specs.Source.{is_read_as_itself}
use Rattle.target_paths.proofs.PiecesLemmas.{from_byte, length-from_byte, bytes_of_pieces-next, left-next, within-next, size-next}
use Rattle.target_paths.proofs.PlainLemmas.{bytes_of_pieces-plain-so_far, left-plain, size-plain-so_far, path_pieces-plain}
use Rattle.target_paths.proofs.ReadingLemmas.{path_pieces-next}
use Rattle.target_paths.proofs.reading.read_path.Goals as goal

pub loop-left-init : goal.loop-left-init
loop-left-init c =
    let syntax = c.args.syntax in
    let target = c.args.target.now in
    let plain = c.plain_len-plain.result in
    let is = c.plain_len-plain.ensures in
    record {
      read =
          bytes_of_pieces-plain-so_far (path_pieces syntax) is_read_as_itself (path_pieces-plain syntax) plain target
          c.in_ok-bytes.bytes.items c.extend_from_slice.new.self.items c.in_ok-bytes.ensures.items
          c.in_ok-extend_from_slice.ensures.items is.plain;
      at = left-plain plain target is.within;
      within = omega (arith, length-from_byte plain target);
      size = size-plain-so_far (path_pieces syntax) is_read_as_itself (path_pieces-plain syntax) plain target is.within is.plain;
    }

pub loop-left-preserved : goal.loop-left-preserved
loop-left-preserved c =
    let syntax = c.args.syntax in
    let left = c.loop-left.left.now in
    let piece = piece_of c.source_piece-piece.result in
    let read = c.source_piece-piece.ensures in
    let next = path_pieces-next syntax left piece c.in-len1-up.len_at_least read.piece read.some
    (sym c.begins_tail.ensures ∙ c.if-begins_tail.false) in
    record {
      read =
          bytes_of_pieces-next c.loop-left.bytes.items c.push_read.new.bytes.items piece (path_pieces syntax left)
          (path_pieces syntax (from_byte piece.size left)) next c.in_ok-push_read.ensures.ok
          ∙ c.loop-left.invariant.read;
      at = left-next left c.args.target.now piece.size c.loop-left.invariant.at read.within
          c.in-len1-up.len_at_least c.loop-left.invariant.within;
      within = within-next left piece.size (length c.args.target.now) c.loop-left.invariant.within;
      size =
          size-next left piece (path_pieces syntax left) (path_pieces syntax (from_byte piece.size left))
          (length c.args.target.now) (total_size (path_pieces syntax c.args.target.now))
          next read.within c.in-len1-up.len_at_least c.loop-left.invariant.within c.loop-left.invariant.size;
    }
