-- Each lane is compared with the six bytes.
use Rattle.std.proofs.Common.{◌≤◌, length, bit_or, refl, arith}
use Rattle.std.proofs.lemmas.Simd.{zip2_of_maps, zip2_splat}
use Rattle.byte_classes.proofs.ForCallers.{mask-class}
use Rattle.markdown_targets.specs.Classes.{is_special}
use Rattle.markdown_targets.proofs.finder.bytes.SpecialByteClass.those_in.Goals as goal

pub returns : goal.returns
returns c =
    let block = c.args.block in
    let long = c.fits-block.0 in
    let few : length block ≤ 64 = omega (arith, long) in
    let brackets = zip2_of_maps bit_or _ _ block
    (zip2_of_maps bit_or _ _ block (zip2_splat _ block 16 91 long) (zip2_splat _ block 16 92 long))
    (zip2_splat _ block 16 93 long) in
    let others = zip2_of_maps bit_or _ _ block
    (zip2_of_maps bit_or _ _ block (zip2_splat _ block 16 33 long) (zip2_splat _ block 16 60 long))
    (zip2_splat _ block 16 96 long) in
    mask-class _ is_special block _ few c.fits-block.1 (zip2_of_maps bit_or _ _ block brackets others) refl
