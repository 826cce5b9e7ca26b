use Rattle.std.proofs.Common.{◌+◌, ◌/◌, ◌^◌, drop, subst, w64}
use Rattle.std.proofs.Math.Facts.{Fits-lt-pow}
use Rattle.std.specs.Int.{trailing_zeros}
use Rattle.relative_path.specs.Masked.{KnowsSlashes}
use Rattle.relative_path.proofs.MaskedLemmas.{trailing_zeros-KnowsSlashes, KnowsSlashes-after}
use Rattle.relative_path.proofs.masked.first_of_mask.Goals as goal

pub returns : goal.returns
returns c text known =
    let m = c.args.mask in
    let n = trailing_zeros w64 m in
    let is = trailing_zeros-KnowsSlashes m text known c.requires (Fits-lt-pow c.ranges.mask) in
    (is, subst (λ i. KnowsSlashes (m / 2 ^ n / 2) (drop (i + 1) text)) is (KnowsSlashes-after m n text known))
