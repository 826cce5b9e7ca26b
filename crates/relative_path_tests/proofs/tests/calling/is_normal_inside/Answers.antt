-- A normal path that doesn't begin with `..` has a place from the top.
use Rattle.std.proofs.Common.{◌≡◌, List, [], ◌∷◌, Some, ap, sym, true≢false, ◌∙◌}
use Rattle.std.specs.Prelude.{slice_get}
use Rattle.std.proofs.lemmas.Bool.{not-true}
use Rattle.std.proofs.lemmas.Option.{same_Some}
use Rattle.relative_path.specs.Steps.{Step, up}
use Rattle.relative_path.specs.Prefixing.{StartsWith}
use Rattle.relative_path.specs.RelativePath.{path_text, path_components}
use Rattle.relative_path.proofs.ForCallers.{IsSome-walk_normal, components-up}
use Rattle.relative_path_tests.proofs.tests.calling.is_normal_inside.Goals as goal

first_up : (cs : List Step) → slice_get cs 0 ≡ Some up → StartsWith cs (up ∷ [])
first_up [] is = absurd (cc)
first_up (c ∷ cs) is = (cs, ap (λ d. d ∷ cs) (same_Some c up is))

pub returns-then-is_normalized : goal.returns-then-is_normalized
returns-then-is_normalized c = λ inside.
    let cs = path_components c.args.path in
    let ups = components-up (path_text c.new.result) c.new.ensures in
    IsSome-walk_normal cs (c.is_normalized.ensures.0 c.if-is_normalized.true) (λ first.
    true≢false (sym (c.starts_with.ensures.1 (rw ups (first_up cs first))) ∙ not-true _ inside))
