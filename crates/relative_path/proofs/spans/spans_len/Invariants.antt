use Rattle.std.proofs.Common.{◌≡◌, ◌+◌, drop}
use Rattle.relative_path.specs.Spans.{spans_len}
use Rattle.relative_path.proofs.spans.spans_len.Given as goal

abbrev pub invariant-loop-span : goal.invariant-loop-span
invariant-loop-span l = l.len + spans_len (drop l.span-index l.spans) ≡ spans_len l.spans
