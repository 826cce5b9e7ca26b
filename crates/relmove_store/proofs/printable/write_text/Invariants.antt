-- What is written so far, and what is written for the characters that are left, is all.
use Rattle.std.proofs.Common.{◌≡◌, ℕ, List, ◌++◌, drop, length}
use Rattle.std.specs.Fmt.{HasWritten, IsPlainFormatter}
use Rattle.std.specs.List.{flat_map}
use Rattle.std.specs.Str.{chars}
use Rattle.relmove_store.specs.Printing.{printed, printed_character}
use Rattle.relmove_store.proofs.printable.write_text.Given as goal

abbrev pub invariant-loop-character : goal.invariant-loop-character
invariant-loop-character g l =
    IsPlainFormatter l.fn.f → (done : List ℕ) × HasWritten g.W.Write.write_str_gives l.fn.f done l.f
    × (done ++ flat_map printed_character (drop (length l.yielded) (chars l.text)) ≡ printed l.text)
