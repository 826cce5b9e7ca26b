-- The text so far, and the lines that are left, are all.
use Rattle.std.proofs.Common.{◌≡◌, ◌++◌, codes, drop, string_bytes}
use Rattle.std.specs.List.{flat_map}
use Rattle.relmove_journal.specs.Journals.{directory_line}
use Rattle.relmove_journal.proofs.journal.push_made.Given as goal

abbrev pub invariant-loop-path : goal.invariant-loop-path
invariant-loop-path l =
    string_bytes l.text ++ flat_map (λ path. directory_line (codes "made") (string_bytes path)) (drop l.path-index l.paths)
    ≡ string_bytes l.fn.text ++ flat_map (λ path. directory_line (codes "made") (string_bytes path)) l.paths
