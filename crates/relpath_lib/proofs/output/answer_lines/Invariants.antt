-- The output so far, and then an output of the remaining text, is an output of the whole text.
use Rattle.std.proofs.Common.{ℕ, List, ◌++◌, length, string_bytes}
use denote.Shadow.{shadow}
use denote.Text.{Utf8}
use Rattle.relpath_lib.specs.Output.{IsOutput}
use Rattle.relpath_lib.proofs.output.answer_lines.Given as goal

abbrev pub invariant-loop-line : goal.invariant-loop-line
invariant-loop-line l = record {
  text : shadow (Utf8 l.left);
  output : (rest : List ℕ) → IsOutput l.left rest → IsOutput l.text (string_bytes l.output ++ rest);
}

abbrev pub decreases-loop-line : goal.decreases-loop-line
decreases-loop-line l = length l.left
