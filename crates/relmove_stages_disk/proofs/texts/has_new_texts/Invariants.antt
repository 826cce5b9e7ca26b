use Rattle.std.proofs.Common.{All, take}
use Rattle.relmove_stages_disk.specs.Entries.{entries_tree}
use Rattle.relmove_stages_disk.specs.Texts.{IsNewText}
use Rattle.relmove_stages_disk.proofs.texts.has_new_texts.Given as goal

-- those that came before are as they have to be
abbrev pub invariant-loop-text : goal.invariant-loop-text
invariant-loop-text l = All (IsNewText (entries_tree l.entries)) (take l.text-index l.texts)
