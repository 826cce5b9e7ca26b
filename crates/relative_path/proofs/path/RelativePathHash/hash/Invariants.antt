use Rattle.std.proofs.Common.{◌≡◌, fold}
use Rattle.relative_path.specs.Components.{components_left}
use Rattle.relative_path.specs.Comparing.{fed}
use Rattle.relative_path.specs.RelativePath.{path_components}
use Rattle.relative_path.proofs.path.RelativePathHash.hash.Given as goal

abbrev pub invariant-loop-component : goal.invariant-loop-component
invariant-loop-component g l =
    fold g.H.Hasher.write l.state (fed (components_left l.component-iterator)) ≡ fold g.H.Hasher.write l.fn.state
    (fed (path_components l.fn.self))
