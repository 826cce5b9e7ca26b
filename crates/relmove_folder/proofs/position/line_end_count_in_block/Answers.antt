-- Each byte of the block is compared with a line end, and its bit is counted.
use Rattle.std.proofs.Common.{◌==◌, ◌∙◌, ap, arith, count_ones, w8}
use Rattle.std.proofs.lemmas.Simd.{bitmask_splat, ones-mask_l}
use Rattle.relmove_folder.specs.Position.{is_line_end}
use Rattle.relmove_folder.proofs.position.line_end_count_in_block.Goals as goal

pub returns : goal.returns
returns c =
    let block = c.args.block in
    ap count_ones (bitmask_splat w8 (λ one other. one == other) block 16 10 c.fits-block.0 (omega arith))
    ∙ ones-mask_l is_line_end block
