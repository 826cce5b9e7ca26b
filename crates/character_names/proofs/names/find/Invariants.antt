use Rattle.std.proofs.Common.{◌≡◌, ℕ, ◌-◌, ◌<◌, ◌≤◌, length}
use Rattle.std.specs.declared.cmp.Ordering.TheVariants.{Less, Greater}
use Rattle.character_names.specs.Names.{rows_from}
use Rattle.character_names.proofs.SearchLemmas.{compared}
use Rattle.character_names.proofs.names.find.Given as goal

abbrev pub invariant-loop-low : goal.invariant-loop-low
invariant-loop-low l = record {
  order : l.low ≤ l.high;
  within : l.high ≤ length l.pairs;
  before : (k : ℕ) → k < l.low → compared (rows_from l.bounds l.text l.pairs) k l.name ≡ Less;
  after : (k : ℕ) → l.high ≤ k → k < length l.pairs → compared (rows_from l.bounds l.text l.pairs) k l.name ≡ Greater;
}

abbrev pub decreases-loop-low : goal.decreases-loop-low
decreases-loop-low l = l.high - l.low
