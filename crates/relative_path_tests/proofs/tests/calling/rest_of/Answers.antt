-- The path is its prefix and what follows it.
use Rattle.relative_path.specs.RelativePath.{path_components}
use Rattle.relative_path.proofs.ForCallers.{walk-append_some}
use Rattle.relative_path_tests.proofs.tests.calling.rest_of.Goals as goal

pub returns : goal.returns
returns c = λ base place is.
    walk-append_some base place (path_components c.args.prefix) (path_components c.in-Ok.rest)
    (rw c.in-Ok.ensures.components at is)
