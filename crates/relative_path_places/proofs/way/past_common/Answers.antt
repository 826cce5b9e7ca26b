-- The next component of both goes to the front.
use Rattle.relative_path.specs.RelativePath.{path_components}
use Rattle.relative_path_places.proofs.WayLemmas.{HaveFront-next}
use Rattle.relative_path_places.proofs.way.past_common.Goals as goal

pub loop-from_rest-preserved : goal.loop-from_rest-preserved
loop-from_rest-preserved c =
    let (first, from_is, to_is) = c.in-Some.ensures.some in
    HaveFront-next (path_components c.args.from) (path_components c.args.to) (path_components c.loop-from_rest.from)
    (path_components c.loop-from_rest.to) (path_components c.in-Some.from_rest) (path_components c.in-Some.to_rest) first
    c.loop-from_rest.invariant from_is to_is
