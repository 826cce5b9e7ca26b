use Rattle.std.proofs.Common.{◌≡◌, fold, map, drop, [], ◌∷◌}
use Rattle.relative_path.specs.Components.{step_of}
use Rattle.relative_path.specs.Comparing.{fed}
use Rattle.relative_path.proofs.component.ComponentHash.hash.Given as goal

abbrev pub invariant-loop-bytes : goal.invariant-loop-bytes
invariant-loop-bytes g l =
    fold g.H.Hasher.write l.state (map (λ b. b.now) (drop l.bytes-index l.bytes-items)) ≡ fold g.H.Hasher.write l.fn.state
    (fed (step_of l.fn.self ∷ []))
