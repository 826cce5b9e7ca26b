use Rattle.std.proofs.Common.{◌≡◌, length}
use Rattle.relative_path.specs.Components.{components_left}
use Rattle.relative_path.specs.Unix.{counted}
use Rattle.relative_path.specs.UnixComponents.{unix_left}
use Rattle.relative_path.proofs.unix_components.UnixComponentsIterator.next.Given as goal

abbrev pub invariant-loop-first : goal.invariant-loop-first
invariant-loop-first l = unix_left l.fn.self ≡ counted l.self.skips_cur_dirs (components_left l.components)

abbrev pub decreases-loop-first : goal.decreases-loop-first
decreases-loop-first l = length (components_left l.components)
