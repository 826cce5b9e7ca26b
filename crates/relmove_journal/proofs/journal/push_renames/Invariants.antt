-- The text so far, and the lines that are left, are all.
use Rattle.std.proofs.Common.{◌≡◌, ◌++◌, drop, string_bytes}
use Rattle.std.specs.List.{flat_map}
use Rattle.relmove_journal.specs.Journals.{rename_line}
use Rattle.relmove_journal.proofs.journal.push_renames.Given as goal

abbrev pub invariant-loop-rename : goal.invariant-loop-rename
invariant-loop-rename l =
    string_bytes l.text ++ flat_map (rename_line l.word) (drop l.rename-index l.renames)
    ≡ string_bytes l.fn.text ++ flat_map (rename_line l.word) l.renames
