use Rattle.std.proofs.Common.{◌≡◌, [], map, take}
use Rattle.relative_path.specs.Pushing.{pushed_all}
use Rattle.relative_path.specs.RelativePath.{path_text}
use Rattle.relative_path_bench.proofs.joining.from_paths_law.Given as goal

abbrev pub invariant-loop-path : goal.invariant-loop-path
invariant-loop-path l = l.one_by_one.text ≡ pushed_all [] (map path_text (take l.path-index l.paths))
