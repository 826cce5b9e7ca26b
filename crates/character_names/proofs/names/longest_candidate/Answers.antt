use Rattle.std.proofs.Common.{refl}
use Rattle.character_names.specs.Names.{longest_name}
use Rattle.character_names.proofs.LongestLemmas.{longest_within-candidate}
use Rattle.character_names.proofs.names.longest_candidate.Goals as goal

pub returns-in-Some-clause-longest : goal.returns-in-Some-clause-longest
returns-in-Some-clause-longest c = longest_within-candidate c.args.text.now c.in-Some.end c.in-Some.ensures

pub returns-in-None-clause-longest : goal.returns-in-None-clause-longest
unfolding longest_name
returns-in-None-clause-longest c = refl
