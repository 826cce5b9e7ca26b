use Rattle.std.proofs.Common.{◌≡◌, ◌≤◌, fold, replicate, string_bytes}
use Rattle.std.specs.String.{string_capacity}
use Rattle.relative_path.specs.Writing.{with_piece}
use Rattle.relative_path.specs.Steps.{up, step_text}
use Rattle.relative_path.proofs.writing.push_climb.Given as goal

abbrev pub invariant-loop-left : goal.invariant-loop-left
invariant-loop-left l = record {
  text : fold with_piece (string_bytes l.text) (replicate l.left (step_text up))
      ≡ fold with_piece (string_bytes l.fn.text) (replicate l.fn.climb (step_text up));
  room : string_capacity l.fn.text ≤ string_capacity l.text;
}

abbrev pub decreases-loop-left : goal.decreases-loop-left
decreases-loop-left l = l.left
