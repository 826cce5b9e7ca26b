-- The path so far, and the characters that are left, are the path that is written.
use Rattle.std.proofs.Common.{◌≡◌, ℕ, List, drop, length, string_bytes}
use Rattle.std.specs.Str.{IsUtf8, chars}
use Rattle.relmove_journal.specs.Journals.{escaped}
use Rattle.relmove_journal.proofs.FieldLemmas.{IsReadSoFar}
use Rattle.relmove_journal.proofs.journal.path_of.Given as goal

abbrev pub invariant-loop-character : goal.invariant-loop-character
invariant-loop-character l =
    (path : List ℕ) → IsUtf8 path → l.field ≡ escaped path
    → IsReadSoFar l.is_escaped (drop (length l.yielded) (chars l.field)) (string_bytes l.path) path
