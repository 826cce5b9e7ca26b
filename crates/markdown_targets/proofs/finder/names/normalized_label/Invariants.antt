-- The bytes so far and what is left are the normalized label.
use Rattle.markdown_targets.proofs.LabelsLemmas.{IsSoFar}
use Rattle.markdown_targets.proofs.finder.names.normalized_label.Given as goal

abbrev pub invariant-loop-byte : goal.invariant-loop-byte
invariant-loop-byte l = IsSoFar l.name l.normalized.items l.is_apart l.byte-index
