use Rattle.relative_path.proofs.ComponentsLemmas.{GivesTextsOfComponents-shown}
use Rattle.relative_path.specs.RelativePath.{path_text}
use Rattle.relative_path.proofs.StepsLemmas.{length-components_le}
use Rattle.relative_path.proofs.path.RelativePath.iter.Goals as goal

pub returns-clause-runs : goal.returns-clause-runs
returns-clause-runs c = GivesTextsOfComponents-shown

pub returns-clause-count : goal.returns-clause-count
returns-clause-count c = length-components_le (path_text c.args.self)
