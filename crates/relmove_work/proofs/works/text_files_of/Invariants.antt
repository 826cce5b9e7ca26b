-- The files so far are those of the texts so far.
use Rattle.std.proofs.Common.{map, take}
use Rattle.std.specs.List.{AllZip}
use Rattle.relmove_work.specs.Works.{IsWrittenAt, new_text}
use Rattle.relmove_work.proofs.works.text_files_of.Given as goal

abbrev pub invariant-loop-text : goal.invariant-loop-text
invariant-loop-text l = AllZip IsWrittenAt (map new_text (take l.text-index l.texts)) l.files.items
