-- Each path so far stays below its base.
use Rattle.std.proofs.Common.{IsSome, take, []}
use Rattle.std.specs.List.{All}
use Rattle.relative_path.specs.RelativePath.{path_components}
use Rattle.relative_path.specs.Walk.{walk}
use Rattle.relative_path_tests.proofs.tests.calling.all_stay_below.Given as goal

abbrev pub invariant-loop-path : goal.invariant-loop-path
invariant-loop-path l = All (λ path. IsSome (walk [] (path_components path))) (take l.path-index l.paths)
