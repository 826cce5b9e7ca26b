-- The mentions are those that begin before `start`.
use Rattle.std.proofs.Common.{◌≤◌, ◌-◌, ℕ, List}
use Rattle.relmove_mentions.specs.Mentions.{AreMentionsBefore}
use Rattle.relmove_mentions.specs.OldNames.{Has}
use Rattle.relmove_mentions.specs.Spans.{ArePassed}
use Rattle.relmove_mentions.proofs.old_names.OldNames.push_between.Given as goal

abbrev pub invariant-loop-start : goal.invariant-loop-start
invariant-loop-start l = record {
  after : l.span.start ≤ l.start;
  before : l.start ≤ l.span.end;
  passed : ArePassed l.searched.file.read.now l.passed l.start;
  so_far : (olds : List (List ℕ)) → Has olds l.self → AreMentionsBefore olds l.searched.file l.fn.mentions.items l.span.start 0
      → AreMentionsBefore olds l.searched.file l.mentions.items l.start 0;
}

abbrev pub decreases-loop-start : goal.decreases-loop-start
decreases-loop-start l = l.span.end - l.start
