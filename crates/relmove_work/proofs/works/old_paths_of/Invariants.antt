-- The map has old paths of the renames so far.
use Rattle.std.proofs.Common.{map, take}
use Rattle.relmove_work.specs.Pages.{HasOldPaths}
use Rattle.relmove_work.specs.Works.{rename_text}
use Rattle.relmove_work.proofs.works.old_paths_of.Given as goal

abbrev pub invariant-loop-rename : goal.invariant-loop-rename
invariant-loop-rename l = HasOldPaths (map rename_text (take l.rename-index l.renames)) l.olds
