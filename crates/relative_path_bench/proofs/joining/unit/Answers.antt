use Rattle.relative_path_bench.proofs.JoiningLemmas.{same_empty_after, same_empty_before}
use Rattle.relative_path_bench.proofs.joining.unit.Goals as goal

pub returns-clause-same_after : goal.returns-clause-same_after
returns-clause-same_after c =
    same_empty_after _ _ c.in_ok-normal.ensures.normal_form.normal_text
    (rw (c.as_relative_path.ensures, c.new-empty.ensures) at c.in_ok-empty_after.ensures.normal_form)

pub returns-clause-same_before : goal.returns-clause-same_before
returns-clause-same_before c =
    same_empty_before _ _ c.in_ok-normal.ensures.normal_form.normal_text
    (rw (c.as_relative_path-2.ensures, c.new-empty.ensures) at c.in_ok-empty_before.ensures.normal_form)
