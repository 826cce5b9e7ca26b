-- From a directory that stays below its base some path leads to every target.
use Rattle.std.proofs.lemmas.Bool.{true_from_ne_false}
use Rattle.relative_path.proofs.ForCallers.{IsReachable-from_top}
use Rattle.relative_path_tests.proofs.tests.calling.link_from.Goals as goal

pub returns : goal.returns
returns c = λ inside. true_from_ne_false _ (λ is_none.
    c.in_ok-found.ensures.none.0 is_none (IsReachable-from_top _ _ inside))
