-- The text so far, and the lines that are left, are all.
use Rattle.std.proofs.Common.{◌≡◌, ◌++◌, codes, drop, string_bytes}
use Rattle.std.specs.List.{flat_map}
use Rattle.relmove_journal.specs.Journals.{text_line}
use Rattle.relmove_journal.proofs.journal.push_texts.Given as goal

abbrev pub invariant-loop-file : goal.invariant-loop-file
invariant-loop-file l =
    string_bytes l.text ++ flat_map (text_line (codes "text")) (drop l.file-index l.files)
    ≡ string_bytes l.fn.text ++ flat_map (text_line (codes "text")) l.files
