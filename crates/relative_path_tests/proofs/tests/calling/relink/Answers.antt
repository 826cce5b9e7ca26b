-- A page's directory has the page's components, followed by one step up.
use Rattle.std.proofs.Common.{◌≡◌, [], ◌∷◌, ◌++◌, refl}
use Rattle.relative_path.specs.RelativePath.{path_text, path_components}
use Rattle.relative_path.specs.Steps.{up}
use Rattle.relative_path.proofs.ForCallers.{components-up}
use Rattle.relative_path_tests.proofs.tests.calling.relink.Goals as goal

pub returns : goal.returns
returns c =
    let ups = components-up (path_text c.new.result) c.new.ensures in
    let target_is : path_components c.as_relative_path-2.result
    ≡ (path_components c.args.page ++ up ∷ []) ++ path_components c.args.link =
    rw (
      c.as_relative_path-2.ensures,
      c.in_ok-target.ensures.components,
      c.as_relative_path.ensures,
      c.in_ok-directory.ensures.components,
      ups,
    ) refl in
    rw target_is at c.in_ok-copied.ensures.way.shortest
