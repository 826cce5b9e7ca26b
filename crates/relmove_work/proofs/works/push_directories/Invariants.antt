-- The directories so far are added.
use Rattle.std.proofs.Common.{◌≡◌, ◌++◌, map}
use Rattle.relmove_journal.specs.declared.work.Leftover.TheVariants.{Directory}
use Rattle.relmove_work.proofs.works.push_directories.Given as goal

abbrev pub invariant-loop-path : goal.invariant-loop-path
invariant-loop-path l = l.left.items ≡ l.initial.left.items ++ map Directory l.yielded
