-- The mentions are those that begin before `start`, so many spans that were read end before it, and those with bytes that don't
-- go on a path begin at `wide.start` or later.
use Rattle.std.proofs.Common.{◌≡◌, ◌≤◌, ◌-◌, ℕ, List, length}
use Rattle.relmove_mentions.specs.Mentions.{AreMentionsBefore, HaveOthersFrom}
use Rattle.relmove_mentions.specs.OldNames.{Has}
use Rattle.relmove_mentions.specs.Spans.{ArePassed}
use Rattle.relmove_mentions.specs.declared.file_text.FileText.{FileText}
use Rattle.relmove_mentions.proofs.old_names.OldNames.mentions_in.Given as goal

abbrev pub invariant-loop-end : goal.invariant-loop-end
invariant-loop-end l = record {
  within : l.start ≤ length l.searched.file.text.now;
  passed : ArePassed l.searched.file.read.now l.passed l.start;
  wide : (olds : List (List ℕ)) (file : FileText) → Has olds l.self → file.text.now ≡ l.searched.file.text.now
      → HaveOthersFrom olds file l.start l.wide.start;
  so_far : (olds : List (List ℕ)) → Has olds l.self → AreMentionsBefore olds l.searched.file l.mentions.items l.start 0;
}

abbrev pub decreases-loop-end : goal.decreases-loop-end
decreases-loop-end l = length l.searched.file.text.now - l.start
