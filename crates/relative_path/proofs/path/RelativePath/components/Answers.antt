use Rattle.relative_path.proofs.ComponentsLemmas.{GivesComponents-shown}
use Rattle.relative_path.specs.RelativePath.{path_text}
use Rattle.relative_path.proofs.StepsLemmas.{length-components_le}
use Rattle.relative_path.proofs.path.RelativePath.components.Goals as goal

pub returns-clause-runs : goal.returns-clause-runs
returns-clause-runs c = GivesComponents-shown

pub returns-clause-count : goal.returns-clause-count
returns-clause-count c = length-components_le (path_text c.args.self)
