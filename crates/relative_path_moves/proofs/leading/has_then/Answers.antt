-- The rest after the front is that many `..` exactly if it climbs so far and has no file name.
use Rattle.std.proofs.Common.{true≢false, sym, arith}
use Rattle.relative_path.specs.RelativePath.{path_components}
use Rattle.relative_path_moves.proofs.LeadingLemmas.{then_ups, lacks_name}
use Rattle.relative_path_moves.proofs.leading.has_then.Goals as goal

pub returns-then-climb : goal.returns-then-climb
returns-then-climb c =
    let both =
    then_ups (path_components c.args.file) (path_components c.args.front) (path_components c.in-Ok.rest) c.args.climb
    c.climb.result c.requires c.in-Ok.ensures.components c.climb.ensures.normal in
    (λ e. absurd (true≢false (sym e)), λ is. let count = (both.0 is).0 in absurd (omega (arith, count, c.if-climb.true)))

pub returns : goal.returns
returns c =
    let both =
    then_ups (path_components c.args.file) (path_components c.args.front) (path_components c.in-Ok.rest) c.args.climb
    c.climb.result c.requires c.in-Ok.ensures.components c.climb.ensures.normal in
    let lacks = lacks_name c.file_name.result c.is_none.result _ c.file_name.ensures.text c.is_none.ensures in
    (λ t. both.1 (omega (arith, c.if-climb.false), lacks.0 t), λ is. lacks.1 (both.0 is).1)
