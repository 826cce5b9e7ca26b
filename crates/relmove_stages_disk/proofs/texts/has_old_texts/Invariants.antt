use Rattle.std.proofs.Common.{All, take}
use Rattle.relmove_stages_disk.specs.Entries.{entries_tree}
use Rattle.relmove_stages_disk.specs.Texts.{IsOldText}
use Rattle.relmove_stages_disk.proofs.texts.has_old_texts.Given as goal

-- those that came before are as they have to be
abbrev pub invariant-loop-leftover : goal.invariant-loop-leftover
invariant-loop-leftover l = All (IsOldText (entries_tree l.entries)) (take l.leftover-index l.leftovers)
