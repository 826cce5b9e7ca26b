-- The mentions are those before the next span that begins at `start`, and `left` bytes that aren't path bytes may still come.
use Rattle.std.proofs.Common.{◌≡◌, ◌≤◌, ◌+◌, ◌-◌, ℕ, List, length, take, drop}
use Rattle.relmove_mentions.specs.Endings.{ending_of}
use Rattle.relmove_mentions.specs.Mentions.{AreMentionsBefore}
use Rattle.relmove_mentions.specs.OldNames.{Has}
use Rattle.relmove_mentions.specs.Spans.{others_in}
use Rattle.relmove_mentions.proofs.old_names.OldNames.push_bounded.Given as goal

abbrev pub invariant-loop-end : goal.invariant-loop-end
invariant-loop-end l = record {
  order : l.start ≤ l.end;
  within : l.end ≤ length l.searched.file.text.now;
  others : others_in (take (l.end - l.start) (drop l.start l.searched.file.text.now)) + l.left ≡ l.most;
  ending : l.ending ≡ ending_of (take (l.end - l.start) (drop l.start l.searched.file.text.now));
  so_far : (olds : List (List ℕ)) → Has olds l.self → AreMentionsBefore olds l.searched.file l.fn.mentions.items l.start 0
      → AreMentionsBefore olds l.searched.file l.mentions.items l.start (l.end + 1);
}

abbrev pub decreases-loop-end : goal.decreases-loop-end
decreases-loop-end l = length l.searched.file.text.now - l.end
