-- The map has the files of the renames so far.
use Rattle.std.proofs.Common.{map, take}
use Rattle.relmove_work.specs.Pages.{HasFiles}
use Rattle.relmove_work.specs.Works.{rename_text}
use Rattle.relmove_work.proofs.works.files_of.Given as goal

abbrev pub invariant-loop-rename : goal.invariant-loop-rename
invariant-loop-rename l = HasFiles (map rename_text (take l.rename-index l.staged)) l.files
