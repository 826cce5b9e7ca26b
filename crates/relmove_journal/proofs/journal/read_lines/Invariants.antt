-- The lines that are left, added to what was read, say what the journal says.
use Rattle.std.proofs.Common.{length}
use denote.Shadow.{shadow}
use denote.Text.{Utf8}
use Rattle.relmove_journal.specs.declared.journal.Origin.{Origin}
use Rattle.relmove_journal.specs.declared.work.Stage.{Stage}
use Rattle.relmove_journal.specs.declared.work.Work.{Work}
use Rattle.relmove_journal.specs.Reading.{IsTextOfRun, content_of, parts_of}
use Rattle.relmove_journal.proofs.LinesLemmas.{IsLeft}
use Rattle.relmove_journal.proofs.journal.read_lines.Given as goal

abbrev pub invariant-loop-line : goal.invariant-loop-line
invariant-loop-line l = record {
  utf8 : shadow (Utf8 l.left);
  lines : (origin : Origin) (stage : Stage) (work : Work) → IsTextOfRun l.text origin stage work
      → IsLeft l.left (content_of l.journal) (record { origin = origin; stage = stage; work = parts_of work });
}

abbrev pub decreases-loop-line : goal.decreases-loop-line
decreases-loop-line l = length l.left
