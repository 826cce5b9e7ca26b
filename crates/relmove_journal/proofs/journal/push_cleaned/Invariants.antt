-- The text so far, and the lines that are left, are all.
use Rattle.std.proofs.Common.{◌≡◌, ◌++◌, drop, string_bytes}
use Rattle.std.specs.List.{flat_map}
use Rattle.relmove_journal.specs.Journals.{leftover_line}
use Rattle.relmove_journal.proofs.journal.push_cleaned.Given as goal

abbrev pub invariant-loop-leftover : goal.invariant-loop-leftover
invariant-loop-leftover l =
    string_bytes l.text ++ flat_map leftover_line (drop l.leftover-index l.leftovers)
    ≡ string_bytes l.fn.text ++ flat_map leftover_line l.leftovers
