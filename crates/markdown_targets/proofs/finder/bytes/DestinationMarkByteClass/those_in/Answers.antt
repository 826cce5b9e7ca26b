-- Each lane is compared with the space and with four bytes.
use Rattle.std.proofs.Common.{◌≤◌, length, bit_or, refl, arith}
use Rattle.std.proofs.lemmas.Simd.{zip2_of_maps, zip2_splat}
use Rattle.byte_classes.proofs.ForCallers.{mask-class}
use Rattle.markdown_targets.specs.Classes.{is_destination_mark}
use Rattle.markdown_targets.proofs.finder.bytes.DestinationMarkByteClass.those_in.Goals as goal

pub returns : goal.returns
returns c =
    let block = c.args.block in
    let long = c.fits-block.0 in
    let few : length block ≤ 64 = omega (arith, long) in
    let controls = zip2_of_maps bit_or _ _ block (zip2_splat _ block 16 32 long) (zip2_splat _ block 16 127 long) in
    let others = zip2_of_maps bit_or _ _ block
    (zip2_of_maps bit_or _ _ block (zip2_splat _ block 16 40 long) (zip2_splat _ block 16 41 long))
    (zip2_splat _ block 16 92 long) in
    mask-class _ is_destination_mark block _ few c.fits-block.1 (zip2_of_maps bit_or _ _ block controls others) refl
