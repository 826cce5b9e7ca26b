use Rattle.target_paths.proofs.WritingLemmas.{without_slashes-trimmed}
use Rattle.target_paths.proofs.writing.without_slashes.Goals as goal

pub returns : goal.returns
returns c = without_slashes-trimmed c.args.path.now c.trim_start_matches.result.now c.trim_start_matches.ensures.matches
