-- No name of the slug with a number before this one is free.
use Rattle.std.proofs.Common.{◌≡◌, ℕ, ◌≤◌, ◌<◌, true}
use Rattle.markdown_anchors.specs.Names.{numbered}
use Rattle.markdown_anchors.specs.Taken.{is_taken}
use Rattle.markdown_anchors.proofs.names.free_number.Given as goal

abbrev pub invariant-loop-number : goal.invariant-loop-number
invariant-loop-number l = (n : ℕ) → l.from ≤ n → n < l.number → is_taken l.taken (numbered l.slug n) ≡ true
