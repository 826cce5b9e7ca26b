use Rattle.std.proofs.Common.{subst}
use Rattle.std.specs.Str.{IsUtf8}
use Rattle.target_paths.proofs.RoundTripLemmas.{target_of-read}
use Rattle.target_paths.proofs.writing.push_target_of_path.Goals as goal

pub returns-clause-read : goal.returns-clause-read
returns-clause-read c = target_of-read c.args.path.now (subst IsUtf8 c.path_written.ensures c.path_written.utf8)
