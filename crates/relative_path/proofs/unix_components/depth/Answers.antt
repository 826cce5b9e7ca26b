use Rattle.std.proofs.Common.{[], arith, refl}
use Rattle.relative_path.proofs.UnixComponentsLemmas.{length-counted_le}
use Rattle.relative_path.proofs.unix_components.depth.Goals as goal

pub loop-component-init : goal.loop-component-init
loop-component-init c =
    let most = length-counted_le c.args.left.skips_cur_dirs c.args.left.left.text.now in
    rw c.into_iter-component-iterator.ensures.into_iter_gives ([], refl, refl, omega (arith, most))
