-- All numbers so far are taken, which are no more than the entries.
use Rattle.std.proofs.Common.{◌≡◌, ◌≤◌, ◌+◌, ◌-◌}
use Rattle.relative_path.specs.RelativePath.{path_components}
use Rattle.relative_path_places.specs.IndexEntries.{entry_count}
use Rattle.relmove_steps.specs.StagingNames.{AreTaken}
use Rattle.relmove_steps.proofs.staging.FreeNames.draw.Given as goal

abbrev pub invariant-loop-self : goal.invariant-loop-self
invariant-loop-self l = record {
  entries : l.self.entries ≡ l.fn.self.entries;
  late : l.fn.self.last ≤ l.self.last;
  taken : AreTaken l.fn.self.entries.now (path_components l.fn.directory) l.fn.self.last l.self.last;
}

abbrev pub decreases-loop-self : goal.decreases-loop-self
decreases-loop-self l = entry_count l.fn.self.entries.now + 1 + l.fn.self.last - l.self.last
