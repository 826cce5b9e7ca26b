-- Each lane is compared with the bytes and the ranges.
use Rattle.std.proofs.Common.{◌≤◌, length, bit_or, refl, arith}
use Rattle.std.proofs.lemmas.Simd.{splat_is_map, zip2_of_maps, zip2_splat}
use Rattle.target_paths.specs.Writing.{is_escaped_later}
use Rattle.byte_classes.proofs.ForCallers.{mask-class}
use Rattle.target_paths.proofs.writing.EscapedLaterByteClass.those_in.Goals as goal

pub returns : goal.returns
returns c =
    let block = c.args.block in
    let long = c.fits-block.0 in
    let few : length block ≤ 64 = omega (arith, long) in
    let controls = zip2_of_maps bit_or _ _ block (zip2_splat _ block 16 32 long) (zip2_splat _ block 16 127 long) in
    let low = zip2_of_maps bit_or _ _ block
    (zip2_of_maps bit_or _ _ block (zip2_splat _ block 16 34 long) (zip2_splat _ block 16 35 long))
    (zip2_splat _ block 16 58 long) in
    let brackets = zip2_of_maps bit_or _ _ block
    (zip2_of_maps _ _ _ block (zip2_splat _ block 16 37 long) (splat_is_map block 16 4 long))
    (zip2_of_maps _ _ _ block (zip2_splat _ block 16 60 long) (splat_is_map block 16 3 long)) in
    let high = zip2_of_maps bit_or _ _ block
    (zip2_of_maps bit_or _ _ block (zip2_splat _ block 16 92 long) (zip2_splat _ block 16 96 long))
    (zip2_splat _ block 16 124 long) in
    mask-class _ is_escaped_later block _ few c.fits-block.1
    (zip2_of_maps bit_or _ _ block (zip2_of_maps bit_or _ _ block (zip2_of_maps bit_or _ _ block controls low) brackets) high) refl
