use Rattle.relative_path_bench.proofs.JoiningLemmas.{same_brackets}
use Rattle.relative_path_bench.proofs.joining.associative.Goals as goal

pub returns-clause-same : goal.returns-clause-same
returns-clause-same c =
    same_brackets _ _ _ _ _ _ _ c.in_ok-a_b.ensures.in_turn c.in_ok-b_c.ensures.in_turn
    (rw c.as_relative_path.ensures at c.in_ok-from_the_left.ensures.in_turn)
    (rw c.as_relative_path-2.ensures at c.in_ok-from_the_right.ensures.in_turn)
    c.in_ok-from_the_left.ensures.normal_form.normal_text
    (rw c.as_relative_path-2.ensures at c.in_ok-from_the_right.ensures.normal_form)
