-- Each lane is compared with the byte.
use Rattle.std.proofs.Common.{◌==◌, ◌≤◌, arith, w8}
use Rattle.std.proofs.lemmas.Simd.{bitmask_splat}
use Rattle.byte_classes.proofs.OneByteByteClass.those_in.Goals as goal

pub returns : goal.returns
returns c =
    let block = c.args.block in
    let long = c.fits-block.0 in
    let few : 16 ≤ 64 = omega arith in
    bitmask_splat w8 (λ one other. one == other) block 16 _ long few
