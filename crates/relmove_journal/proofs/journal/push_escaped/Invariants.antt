-- The text so far, and the characters that are left, are all.
use Rattle.std.proofs.Common.{◌≡◌, ◌++◌, drop, length, string_bytes}
use Rattle.std.specs.List.{flat_map}
use Rattle.std.specs.Str.{chars}
use Rattle.relmove_journal.specs.Journals.{escaped, escaped_character}
use Rattle.relmove_journal.proofs.journal.push_escaped.Given as goal

abbrev pub invariant-loop-character : goal.invariant-loop-character
invariant-loop-character l =
    string_bytes l.text ++ flat_map escaped_character (drop (length l.yielded) (chars l.field))
    ≡ string_bytes l.fn.text ++ escaped l.field
