-- The table has the answer for each of the 256 bytes.
use Rattle.std.proofs.Common.{false, refl, slice_index_or}
use Rattle.std.proofs.lemmas.Bool.{agree_below_at}
use Rattle.relmove_mentions.specs.Spans.{is_path_byte}
use Rattle.relmove_mentions.specs.declared.text_span.TheConstants.{PATH_BYTES}
use Rattle.relmove_mentions.proofs.text_span.is_path_byte.Goals as goal

pub returns : goal.returns
returns c = agree_below_at (λ b. slice_index_or PATH_BYTES b false) is_path_byte 256 c.args.byte refl c.ranges.byte.fits
