-- When texts are as the journal says.
use Rattle.std.specs.Prelude.{◌≡◌, ◌⊎◌, None}
use Rattle.relmove_journal.specs.declared.work.Leftover.{Leftover}
use Rattle.relmove_journal.specs.declared.work.Leftover.TheVariants.{Text, Directory}
use Rattle.relmove_journal.specs.declared.work.TextFile.{TextFile}
use Rattle.relmove_stages.specs.StageActions.{HasText, place_of}
use Rattle.relmove_trees.specs.FileTrees.{Tree}

-- the new text is as it was written, if it is there
abbrev pub IsNewText : Tree → TextFile → Type 0
IsNewText tree text = (tree (place_of text.path) ≡ None) ⊎ HasText (place_of text.path) text.digest tree

-- what is left over is as it was read, if it is a text
abbrev pub IsOldText : Tree → Leftover → Type 0
IsOldText tree (Text text) = HasText (place_of text.path) text.digest tree
IsOldText tree (Directory path) = Unit {0}
