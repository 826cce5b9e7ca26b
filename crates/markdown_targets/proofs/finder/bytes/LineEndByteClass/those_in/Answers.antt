-- Each lane is compared with the two bytes that end a line.
use Rattle.std.proofs.Common.{◌≤◌, length, bit_or, refl, arith}
use Rattle.std.proofs.lemmas.Simd.{zip2_of_maps, zip2_splat}
use Rattle.byte_classes.proofs.ForCallers.{mask-class}
use Rattle.markdown_targets.specs.Classes.{is_line_end}
use Rattle.markdown_targets.proofs.finder.bytes.LineEndByteClass.those_in.Goals as goal

pub returns : goal.returns
returns c =
    let block = c.args.block in
    let long = c.fits-block.0 in
    let few : length block ≤ 64 = omega (arith, long) in
    mask-class _ is_line_end block _ few c.fits-block.1
    (zip2_of_maps bit_or _ _ block (zip2_splat _ block 16 10 long) (zip2_splat _ block 16 13 long)) refl
