use Rattle.std.proofs.Common.{eqb, w8}
use Rattle.std.specs.Simd.Lanes.{chunk}
use Rattle.std.proofs.lemmas.Simd.{bitmask_splat, length-chunk}
use Rattle.relative_path.specs.Steps.{slash}
use Rattle.relative_path.proofs.slashes.slashes_in.Goals as goal

pub returns : goal.returns
returns g c =
    bitmask_splat w8 eqb (chunk c.args.start g.row.N c.args.bytes.now) g.row.N slash
    (length-chunk c.args.start g.row.N c.args.bytes.now c.requires.block) c.requires.lanes
