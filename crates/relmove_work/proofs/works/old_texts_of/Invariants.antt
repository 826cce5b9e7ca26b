-- The texts so far are those of the labels so far.
use Rattle.std.proofs.Common.{map, string_bytes, take}
use Rattle.std.specs.List.{AllZip}
use Rattle.relmove_work.specs.Pages.{IsLeftText, page_texts}
use Rattle.relmove_work.specs.Works.{rename_text}
use Rattle.relmove_work.proofs.works.old_texts_of.Given as goal

abbrev pub invariant-loop-label : goal.invariant-loop-label
invariant-loop-label l =
    AllZip (IsLeftText (map rename_text l.staged) (page_texts l.pages)) (map string_bytes (take l.label-index l.removed)) l.left.items
