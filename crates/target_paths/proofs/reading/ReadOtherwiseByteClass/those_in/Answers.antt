-- Each lane is compared with the eight bytes.
use Rattle.std.proofs.Common.{◌≤◌, length, bit_or, refl, arith}
use Rattle.std.proofs.lemmas.Simd.{zip2_of_maps, zip2_splat}
use Rattle.target_paths.specs.Source.{is_read_otherwise}
use Rattle.byte_classes.proofs.ForCallers.{mask-class}
use Rattle.target_paths.proofs.reading.ReadOtherwiseByteClass.those_in.Goals as goal

pub returns : goal.returns
returns c =
    let block = c.args.block in
    let long = c.fits-block.0 in
    let few : length block ≤ 64 = omega (arith, long) in
    let removed = zip2_of_maps bit_or _ _ block
    (zip2_of_maps bit_or _ _ block (zip2_splat _ block 16 9 long) (zip2_splat _ block 16 10 long))
    (zip2_splat _ block 16 13 long) in
    let read = zip2_of_maps bit_or _ _ block
    (zip2_of_maps bit_or _ _ block (zip2_splat _ block 16 0 long) (zip2_splat _ block 16 38 long))
    (zip2_splat _ block 16 92 long) in
    let tail = zip2_of_maps bit_or _ _ block (zip2_splat _ block 16 35 long) (zip2_splat _ block 16 63 long) in
    mask-class _ is_read_otherwise block _ few c.fits-block.1
    (zip2_of_maps bit_or _ _ block (zip2_of_maps bit_or _ _ block removed read) tail) refl
