use Rattle.std.proofs.Common.{◌≡◌, ◌≤◌, map}
use Rattle.relative_path.specs.Pushing.{pushed_all}
use Rattle.relative_path.specs.RelativePath.{path_text}
use Rattle.relative_path.proofs.buf.RelativePathBuf.extend.Given as goal

abbrev pub invariant-loop-path : goal.invariant-loop-path
invariant-loop-path g l =
    (l.self.text ≡ pushed_all l.fn.self.text (map path_text l.yielded)) × (l.fn.self.room ≤ l.self.room)
